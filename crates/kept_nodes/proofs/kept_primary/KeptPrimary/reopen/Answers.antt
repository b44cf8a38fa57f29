use Rattle.model.specs.LocalRuns.{Opens}
use Rattle.endpoint.specs.Calls.{is_out_of_memory}
use Rattle.kept_nodes.proofs.Covering.{kept-event}
use Rattle.kept_nodes.proofs.kept_primary.KeptPrimary.reopen.Goals as goal

pub invariant_of-self : goal.invariant_of-self
invariant_of-self g c = kept-event g.F.StableFile.seen g.F.StableFile.may_leave g.F.StableFile.faithful g.B.Beginning.opening (Opens c.args.words.sync c.args.words.loss (is_out_of_memory c.reopen-opened.result))
    (λ h block may. may) c.self.inside.node c.reopen-opened.new.self c.self.inside.metadata c.save_identifiers.new.metadata c.self.inside.owes_all c.self.invariant
    c.save_identifiers.ensures.keeps c.reopen-opened.ensures.step.after c.save_identifiers.ensures.saved
