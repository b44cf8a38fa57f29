use Rattle.std.proofs.Common.{◌-◌, length}
use Rattle.pumps.specs.Carried.{PopsBytes}
use Rattle.pumps.proofs.outward.gather.Given as goal

abbrev pub invariant-loop-row : goal.invariant-loop-row
invariant-loop-row g l = PopsBytes l.initial.row l.row l.buffer

abbrev pub decreases-loop-row : goal.decreases-loop-row
decreases-loop-row g l = 196640 - length l.buffer
