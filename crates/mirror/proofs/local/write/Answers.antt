use Rattle.std.proofs.Common.{refl, inl, inr}
use Rattle.blocks.specs.declared.outcome.Reply.TheVariants as reply
use Rattle.model.specs.LocalRuns.{WritesLocally, FailsLocally}
use Rattle.primary_protocol.specs.Steps.{replied}
use Rattle.mirror.proofs.Runs.{local-step}
use Rattle.mirror.proofs.local.write.Goals as goal

pub returns-in-Some-clause-runs : goal.returns-in-Some-clause-runs
returns-in-Some-clause-runs g c = elim c.local.ensures.step [
  | inl done ↦ local-step (WritesLocally _) tt c.args.local.now c.local.new.self (replied reply.Ok c.local.result) (λ h. refl) done.1
  | inr failed ↦ local-step (FailsLocally _ failed.1.0) tt c.args.local.now c.local.new.self (replied reply.Ok c.local.result) (λ h. refl) failed.1.1
]
