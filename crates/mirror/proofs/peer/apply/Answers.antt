use Rattle.std.proofs.Common.{refl, inl, inr}
use Rattle.model.specs.LocalRuns.{Applies, FailsToApply}
use Rattle.secondary_protocol.specs.Steps.{replied}
use Rattle.mirror.proofs.Runs.{peer-step}
use Rattle.mirror.proofs.peer.apply.Goals as goal

pub returns-in-Ok-clause-runs : goal.returns-in-Ok-clause-runs
returns-in-Ok-clause-runs g c = elim c.peer.ensures.step [
  | inl done ↦ peer-step (Applies _) tt c.args.peer.now c.peer.new.self (replied (λ done. done) c.peer.result) (λ h. refl) done.1
  | inr failed ↦ peer-step (FailsToApply _ failed.1.0) tt c.args.peer.now c.peer.new.self (replied (λ done. done) c.peer.result) (λ h. refl) failed.1.1
]
