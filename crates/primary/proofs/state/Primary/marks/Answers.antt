use Rattle.std.proofs.Common.{◌∙◌, ap}
use Rattle.bitmap.specs.Marks.{count}
use Rattle.primary_protocol.proofs.Node.Says.{says-marks}
use Rattle.primary.specs.State.{PrimaryView}
use Rattle.primary.proofs.state.Primary.marks.Goals as goal

pub returns : goal.returns
returns g c = λ h has. c.marks.ensures ∙ (ap (λ (v : PrimaryView). count v.core.marks) c.self.view_is ∙ says-marks _ h has.leaves.core)
