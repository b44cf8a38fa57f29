use Rattle.std.specs.Prelude.{◌≡◌, ◌<◌, ℕ, false, true, length, IsTrue}
use Rattle.bitmap.specs.Marks.{marked}
use Rattle.kept_nodes.specs.Asked.{MarksStand}
use Rattle.kept_nodes.specs.Left.{EntriesStand, IsKnown, LosesNothing, Outcomes}
use Rattle.model.specs.Contents.{extent_of}
use Rattle.kept_nodes.proofs.keeping.enter_marked.Given as goal

-- nothing is lost, and each marked block of the extents so far is known
abbrev pub invariant-loop-number : goal.invariant-loop-number
invariant-loop-number g l = record {
  keeps : LosesNothing g.F.StableFile.seen g.F.StableFile.may_leave g.F.StableFile.faithful l.fn.metadata l.metadata;
  identifiers : l.metadata.identifiers ≡ l.fn.metadata.identifiers;
  whole : l.metadata.is_broken ≡ false;
  size : length l.metadata.entries ≡ l.number-end;
  stand : IsTrue (g.F.StableFile.faithful l.metadata.file) → EntriesStand (Outcomes g.F.StableFile.seen g.F.StableFile.may_leave l.metadata) l.metadata.entries;
  marks : IsTrue (g.F.StableFile.faithful l.metadata.file) → MarksStand g.F.StableFile.seen g.F.StableFile.may_leave l.metadata;
  known : IsTrue (g.F.StableFile.faithful l.metadata.file) → (block : ℕ) → extent_of block < l.number → marked l.marks block ≡ true
      → IsKnown (Outcomes g.F.StableFile.seen g.F.StableFile.may_leave l.metadata) block;
}
