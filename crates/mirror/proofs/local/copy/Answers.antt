use Rattle.std.proofs.Common.{refl, inl, inr}
use Rattle.blocks.specs.declared.outcome.Reply.TheVariants as reply
use Rattle.endpoint.specs.Calls.{is_out_of_memory}
use Rattle.model.specs.LocalRuns.{Resyncs, FailsResync}
use Rattle.primary_protocol.specs.Steps.{replied}
use Rattle.mirror.proofs.Copies.{none-to-copy}
use Rattle.mirror.proofs.Runs.{local-step}
use Rattle.mirror.proofs.local.copy.Goals as goal

pub returns-clause-runs : goal.returns-clause-runs
returns-clause-runs g c =
    let returned = replied reply.Ok c.resync_next.result in
    let out_of_memory = is_out_of_memory c.resync_next.result in
    elim c.resync_next.ensures.step [
      | inl done ↦ local-step (Resyncs done.1.0 out_of_memory) tt c.args.local.now c.resync_next.new.self returned (λ h. refl) done.1.2
      | inr failed ↦ local-step (FailsResync out_of_memory) tt c.args.local.now c.resync_next.new.self returned (λ h. refl) failed.1
    ]

pub returns-clause-copied : goal.returns-clause-copied
returns-clause-copied g c said h has =
    let refused = c.went.ensures.waits said in
    none-to-copy c.args.local.now c.resync_next.new.self c.resync_next.result refused.0 refused.1 refused.2 c.resync_next.ensures.step
    c.resync_next.ensures.idle h has
