use Rattle.std.proofs.Common.{◌≡◌, ◌<◌, ◌||◌, ℕ, length}
use Rattle.bitmap.specs.Marks.{marked}
use Rattle.kept_nodes.specs.Filed.{is_filed}
use Rattle.kept_nodes.proofs.known.add_bytes.Given as goal

abbrev pub invariant-loop-offset : goal.invariant-loop-offset
invariant-loop-offset l = record {
  size : length l.known ≡ length l.fn.known;
  marks : (block : ℕ) → block < length l.fn.known → marked l.known block ≡ (marked l.fn.known block || is_filed l.first l.offset l.marks block);
}
