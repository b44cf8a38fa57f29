use Rattle.std.proofs.Common.{refl}
use Rattle.blocks.specs.declared.outcome.Reply.TheVariants as reply
use Rattle.endpoint.specs.Calls.{has_room, is_out_of_memory}
use Rattle.model.specs.LocalRuns.{Sends}
use Rattle.primary_protocol.specs.Steps.{replied}
use Rattle.mirror.proofs.Runs.{local-step}
use Rattle.mirror.proofs.local.send.Goals as goal

pub returns-clause-runs : goal.returns-clause-runs
returns-clause-runs g c = local-step (Sends (has_room c.send.result) (is_out_of_memory c.send.result)) tt c.args.local.now c.send.new.self
    (replied reply.Ok c.send.result) (λ h. refl) c.send.ensures.step
