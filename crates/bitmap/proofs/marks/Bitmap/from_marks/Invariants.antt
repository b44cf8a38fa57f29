use Rattle.std.proofs.Common.{◌≡◌, ℕ, ◌&&◌, length, nat_lt}
use Rattle.bitmap.specs.Marks.{marked}
use Rattle.bitmap.proofs.marks.Bitmap.from_marks.Given as goal

abbrev pub invariant-loop-block : goal.invariant-loop-block
invariant-loop-block l = record {
  long : length l.bitmap ≡ length l.marks;
  marks : (q : ℕ) → marked l.bitmap q ≡ (nat_lt q l.block && marked l.marks q);
}
