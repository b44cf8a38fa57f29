use Rattle.std.proofs.Common.{◌∙◌, ap}
use Rattle.primary_protocol.specs.Transitions.{stopped_tuple}
use Rattle.primary_protocol.proofs.Node.Stopped.{says-stopped}
use Rattle.primary.specs.State.{PrimaryView}
use Rattle.primary.proofs.state.Primary.tuple_if_stopped.Goals as goal

pub returns : goal.returns
returns g c = λ h has. c.tuple_if_stopped.ensures ∙ (ap (λ (v : PrimaryView). stopped_tuple v.core) c.self.view_is ∙ says-stopped _ h has.leaves.core)
