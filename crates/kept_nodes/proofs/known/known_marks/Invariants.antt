use Rattle.std.proofs.Common.{◌≡◌, ◌/◌, ◌<◌, ◌||◌, ◌&&◌, ℕ, length}
use Rattle.std.specs.Prelude.{nat_lt}
use Rattle.bitmap.specs.Marks.{marked}
use Rattle.metadata.specs.State.{is_entered}
use Rattle.kept_nodes.proofs.known.known_marks.Given as goal

abbrev pub invariant-loop-number : goal.invariant-loop-number
invariant-loop-number g l = record {
  size : length l.known ≡ length l.initial.known;
  marks : (block : ℕ) → block < length l.initial.known
      → marked l.known block ≡ (marked l.initial.known block || (nat_lt (block / 1024) l.number && is_entered l.metadata.entries (block / 1024)));
}
