use Rattle.std.proofs.Common.{length, ◌∙◌, ap}
use Rattle.bitmap.proofs.Lists.{length-marking}
use Rattle.primary_protocol.specs.Transitions.{unreleased_blocks}
use Rattle.primary_core.proofs.Sound.{core-marks}
use Rattle.primary_core.proofs.state.PrimaryCore.mark_unreleased.Goals as goal

pub invariant_of-self : goal.invariant_of-self
invariant_of-self c =
    let s = c.self.inside in
    core-marks s c.mark_all.new.marks (ap length c.mark_all.ensures ∙ length-marking 0 (unreleased_blocks s.log.state.writes) s.marks) c.self.invariant
