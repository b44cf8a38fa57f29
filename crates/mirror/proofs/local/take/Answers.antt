use Rattle.std.proofs.Common.{refl, ◌&&◌, is_none}
use Rattle.blocks.specs.declared.outcome.Reply.TheVariants as reply
use Rattle.endpoint.specs.Calls.{is_out_of_memory}
use Rattle.model.specs.LocalRuns.{Takes}
use Rattle.primary_protocol.specs.Steps.{replied}
use Rattle.mirror.proofs.Runs.{local-step}
use Rattle.mirror.proofs.local.take.Goals as goal

pub returns-clause-runs : goal.returns-clause-runs
returns-clause-runs g c =
    let took = c.ack_in.ensures.step in
    local-step (Takes took.frame (is_none took.frame && is_out_of_memory c.ack_in.result)) tt c.args.local.now c.ack_in.new.self
    (replied reply.Ok c.ack_in.result) (λ h. refl) took.step
