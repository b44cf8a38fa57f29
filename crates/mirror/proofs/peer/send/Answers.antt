use Rattle.std.proofs.Common.{refl}
use Rattle.endpoint.specs.Calls.{has_room, is_out_of_memory}
use Rattle.model.specs.LocalRuns.{Acknowledges}
use Rattle.secondary_protocol.specs.Steps.{replied}
use Rattle.mirror.proofs.Runs.{peer-step}
use Rattle.mirror.proofs.peer.send.Goals as goal

pub returns-clause-runs : goal.returns-clause-runs
returns-clause-runs g c = peer-step (Acknowledges (has_room c.ack_out.result) (is_out_of_memory c.ack_out.result)) tt c.args.peer.now c.ack_out.new.self
    (replied (λ done. done) c.ack_out.result) (λ h. refl) c.ack_out.ensures.step
