use Rattle.std.proofs.Common.{◌∙◌, ap, length, Bool, List}
use Rattle.bitmap.specs.Marks.{marked}
use Rattle.primary_protocol.proofs.Node.Says.{says-marked, says-size}
use Rattle.primary.specs.State.{PrimaryView}
use Rattle.primary.proofs.state.Primary.bitmap.Goals as goal

pub returns-clause-marks : goal.returns-clause-marks
returns-clause-marks g c = λ h has block.
    ap (λ (l : List Bool). marked l block) c.bitmap.ensures
    ∙ (ap (λ (v : PrimaryView). marked v.core.marks block) c.self.view_is ∙ says-marked _ h block has.leaves.core)

pub returns-clause-size : goal.returns-clause-size
returns-clause-size g c = λ h has. ap (λ (l : List Bool). length l) c.bitmap.ensures
    ∙ (ap (λ (v : PrimaryView). length v.core.marks) c.self.view_is ∙ says-size _ h has.leaves.core)
