use Rattle.std.proofs.Common.{◌∙◌, ap}
use Rattle.activitylog.specs.Activity.{writes_of}
use Rattle.primary_protocol.proofs.Node.Stopped.{says-unreleased-in}
use Rattle.primary.specs.State.{PrimaryView}
use Rattle.primary.proofs.state.Primary.unreleased_in.Goals as goal

pub returns : goal.returns
returns g c = λ h has. c.unreleased_in.ensures
    ∙ (ap (λ (v : PrimaryView). writes_of c.args.extent.0 v.core.activity.active) c.self.view_is ∙ says-unreleased-in _ h c.args.extent.0 has.leaves.core)
