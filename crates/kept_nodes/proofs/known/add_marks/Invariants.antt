use Rattle.std.proofs.Common.{◌≡◌, ◌-◌, ◌<◌, ◌≤◌, ◌||◌, ◌&&◌, ℕ, length}
use Rattle.std.specs.Prelude.{IsTrue, nat_lt}
use Rattle.bitmap.specs.Marks.{marked}
use Rattle.metadata.specs.Says.{marked_in}
use Rattle.kept_nodes.proofs.known.add_marks.Given as goal

abbrev pub invariant-loop-first : goal.invariant-loop-first
invariant-loop-first g l = record {
  inside : l.first ≤ l.blocks;
  size : length l.known ≡ length l.fn.known;
  memory : l.metadata ≡ record l.fn.metadata { file = l.metadata.file };
  seen : g.F.StableFile.seen l.metadata.file ≡ g.F.StableFile.seen l.fn.metadata.file;
  falls : IsTrue (g.F.StableFile.faithful l.metadata.file) → IsTrue (g.F.StableFile.faithful l.fn.metadata.file);
  marks : IsTrue (g.F.StableFile.faithful l.metadata.file) → (block : ℕ) → block < length l.fn.known
      → marked l.known block ≡ (marked l.fn.known block || (nat_lt block l.first && marked_in (g.F.StableFile.seen l.fn.metadata.file) block));
}

abbrev pub decreases-loop-first : goal.decreases-loop-first
decreases-loop-first g l = l.blocks - l.first
