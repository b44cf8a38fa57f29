use Rattle.std.proofs.Common.{length, ◌∙◌, ap}
use Rattle.bitmap.proofs.Lists.{length-marking}
use Rattle.blocks.specs.Ranges.{is_between}
use Rattle.primary_core.proofs.Sound.{core-marks}
use Rattle.primary_core.proofs.state.PrimaryCore.send_or_mark.Goals as goal

pub invariant_of-self : goal.invariant_of-self
invariant_of-self c =
    let marks = c.self.inside.marks in
    core-marks c.self.inside c.mark.new.self
    (ap length c.mark.ensures ∙ length-marking 0 (is_between c.args.range.first.0 c.args.range.count) marks) c.self.invariant
