use Rattle.std.proofs.Common.{◌≡◌, ◌-◌, ◌<◌, ◌≤◌, ℕ, false}
use Rattle.bitmap.specs.Marks.{marked}
use Rattle.bitmap.proofs.marks.Bitmap.first_from.Given as goal

abbrev pub invariant-loop-block : goal.invariant-loop-block
invariant-loop-block l = record {
  from : l.fn.from.0 ≤ l.block;
  none : (q : ℕ) → l.fn.from.0 ≤ q → q < l.block → marked l.self q ≡ false;
}

abbrev pub decreases-loop-block : goal.decreases-loop-block
decreases-loop-block l = l.self-inside.blocks - l.block
