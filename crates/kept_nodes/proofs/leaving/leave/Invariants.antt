use Rattle.std.specs.Prelude.{◌≡◌, ◌≢◌, ℕ, false, true, slice_index, IsTrue}
use Rattle.kept_nodes.specs.Asked.{MarksStand}
use Rattle.kept_nodes.specs.Leaving.{StillCovers}
use Rattle.metadata.specs.State.{is_entered}
use Rattle.kept_nodes.proofs.leaving.leave.Given as goal

-- what was covered still is, the marks of the file stand, and none but prepared extents left
abbrev pub invariant-loop-number : goal.invariant-loop-number
invariant-loop-number g l = record {
  covers : StillCovers g.F.StableFile.seen g.F.StableFile.may_leave g.F.StableFile.faithful l.fn.node l.fn.metadata l.metadata;
  header : l.metadata.header ≡ l.fn.metadata.header;
  identifiers : l.metadata.identifiers ≡ l.fn.metadata.identifiers;
  began : l.fn.metadata.is_broken ≡ false;
  whole : l.metadata.is_broken ≡ false;
  marks : IsTrue (g.F.StableFile.faithful l.metadata.file) → MarksStand g.F.StableFile.seen g.F.StableFile.may_leave l.metadata;
  only_prepared : (x : ℕ) → is_entered l.fn.metadata.entries x ≡ true → is_entered l.metadata.entries x ≡ false → slice_index l.fn.prepared x ≢ 0;
  none_enters : (x : ℕ) → is_entered l.metadata.entries x ≡ true → is_entered l.fn.metadata.entries x ≡ true;
  none_prepared : (x : ℕ) → slice_index l.fn.prepared x ≡ 0 → slice_index l.prepared x ≡ 0;
}
