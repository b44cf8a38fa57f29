use Rattle.std.proofs.Common.{◌≡◌, ◌-◌, ℕ, ◌||◌, length}
use Rattle.blocks.specs.Ranges.{is_between}
use Rattle.bitmap.specs.Marks.{marked}
use Rattle.bitmap.proofs.marks.Bitmap.mark_span.Given as goal

abbrev pub invariant-loop-block : goal.invariant-loop-block
invariant-loop-block l = record {
  long : length l.self ≡ length l.fn.self;
  marks : (q : ℕ) → marked l.self q ≡ (marked l.fn.self q || is_between l.first (l.block - l.first) q);
}
