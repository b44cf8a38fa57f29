use Rattle.std.specs.Prelude.{◌≡◌, length, IsTrue}
use Rattle.kept_nodes.specs.Recorded.{HasMarks, KeepsMarked}
use Rattle.kept_nodes.proofs.recording.record_extents.Given as goal

-- the marks of the extents so far are written, and each marked block is kept
abbrev pub invariant-loop-number : goal.invariant-loop-number
invariant-loop-number g l = record {
  keeps : KeepsMarked l.marks g.F.StableFile.seen g.F.StableFile.may_leave g.F.StableFile.faithful l.fn.metadata l.metadata;
  identifiers : l.metadata.identifiers ≡ l.fn.metadata.identifiers;
  size : length l.metadata.entries ≡ l.number-end;
  written : IsTrue (g.F.StableFile.faithful l.metadata.file) → HasMarks l.number l.marks (g.F.StableFile.seen l.metadata.file);
}
