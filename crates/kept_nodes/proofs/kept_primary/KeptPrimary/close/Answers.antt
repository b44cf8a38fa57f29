use Rattle.model.specs.LocalRuns.{Closes}
use Rattle.kept_nodes.proofs.Covering.{kept-event}
use Rattle.blocks.specs.declared.outcome.Reply.TheVariants as reply
use Rattle.primary_protocol.specs.Steps.{replied}
use Rattle.session_nodes.proofs.Primaries.{goes-on-closes}
use Rattle.kept_nodes.proofs.kept_primary.KeptPrimary.close.Goals as goal

pub invariant_of-self : goal.invariant_of-self
invariant_of-self g c = kept-event g.F.StableFile.seen g.F.StableFile.may_leave g.F.StableFile.faithful g.B.Beginning.opening Closes
    (λ h block may. may) c.self.inside.node c.close-closed.new.self c.self.inside.metadata c.save_identifiers.new.metadata c.self.inside.owes_all c.self.invariant
    c.save_identifiers.ensures.keeps c.close-closed.ensures.step.after c.save_identifiers.ensures.saved

pub returns-clause-goes_on : goal.returns-clause-goes_on
returns-clause-goes_on g c = rw (← c.self.view_is) (goes-on-closes c.self.inside.node c.close-closed.new.self (replied reply.Closed c.close-closed.result)
    c.close-closed.ensures.step c.close-closed.ensures.falls)
