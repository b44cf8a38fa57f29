use Rattle.model.specs.LocalRuns.{Sends}
use Rattle.endpoint.specs.Calls.{has_room, is_out_of_memory}
use Rattle.kept_nodes.proofs.Covering.{kept-event}
use Rattle.kept_nodes.proofs.kept_primary.KeptPrimary.send.Goals as goal

pub invariant_of-self : goal.invariant_of-self
invariant_of-self g c = kept-event g.F.StableFile.seen g.F.StableFile.may_leave g.F.StableFile.faithful g.B.Beginning.opening (Sends (has_room c.send-sent.result) (is_out_of_memory c.send-sent.result))
    (λ h block may. may) c.self.inside.node c.send-sent.new.self c.self.inside.metadata c.save_identifiers.new.metadata c.self.inside.owes_all c.self.invariant
    c.save_identifiers.ensures.keeps c.send-sent.ensures.step.after c.save_identifiers.ensures.saved
