use Rattle.std.proofs.Common.{◌∙◌, ap}
use Rattle.epochs.specs.Epochs.{unacknowledged}
use Rattle.primary_protocol.proofs.Node.Counts.{says-epochs}
use Rattle.primary.specs.State.{PrimaryView}
use Rattle.primary.proofs.state.Primary.open_epochs.Goals as goal

pub returns : goal.returns
returns g c = λ h has. c.open_epochs.ensures
    ∙ (ap (λ (v : PrimaryView). unacknowledged v.core.log.epochs) c.self.view_is ∙ says-epochs _ h has.reached has.leaves.core)
