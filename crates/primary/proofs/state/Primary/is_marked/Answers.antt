use Rattle.std.proofs.Common.{◌∙◌, ap}
use Rattle.bitmap.specs.Marks.{marked}
use Rattle.primary_protocol.proofs.Node.Says.{says-marked}
use Rattle.primary.specs.State.{PrimaryView}
use Rattle.primary.proofs.state.Primary.is_marked.Goals as goal

pub returns : goal.returns
returns g c = λ h has. c.is_marked.ensures
    ∙ (ap (λ (v : PrimaryView). marked v.core.marks c.args.block.0) c.self.view_is ∙ says-marked _ h c.args.block.0 has.leaves.core)
