use Rattle.std.proofs.Common.{refl, ◌&&◌, is_none}
use Rattle.endpoint.specs.Calls.{is_out_of_memory}
use Rattle.model.specs.LocalRuns.{Receives}
use Rattle.secondary_protocol.specs.Steps.{replied}
use Rattle.mirror.proofs.Runs.{peer-step}
use Rattle.mirror.proofs.peer.take.Goals as goal

pub returns-clause-runs : goal.returns-clause-runs
returns-clause-runs g c =
    let took = c.receive.ensures.step in
    peer-step (Receives took.frame (is_none took.frame && is_out_of_memory c.receive.result)) tt c.args.peer.now c.receive.new.self
    (replied (λ done. done) c.receive.result) (λ h. refl) took.step
