use Rattle.model.specs.LocalRuns.{Receipts}
use Rattle.kept_nodes.proofs.Covering.{kept-unturned, receipts-stopped}
use Rattle.kept_nodes.proofs.kept_primary.KeptPrimary.take_completed.Goals as goal

pub invariant_of-self : goal.invariant_of-self
invariant_of-self g c = kept-unturned g.F.StableFile.seen g.F.StableFile.may_leave g.F.StableFile.faithful g.B.Beginning.opening (Receipts c.args.number)
    (λ h block may. may) (receipts-stopped c.args.number) c.self.inside.node c.take_completed.new.self c.self.inside.metadata c.self.inside.owes_all c.self.invariant
    c.take_completed.ensures.step.after
