use Rattle.std.specs.Prelude.{◌≡◌, ◌<◌, ℕ, false, length, IsTrue}
use Rattle.kept_nodes.specs.Recorded.{ComesBy}
use Rattle.metadata.specs.Says.{entered_in}
use Rattle.metadata.specs.Steps.{SameMarks}
use Rattle.kept_nodes.proofs.recording.leave_extents.Given as goal

-- the extents so far are not entered, and no mark has changed
abbrev pub invariant-loop-number : goal.invariant-loop-number
invariant-loop-number g l = record {
  comes : IsTrue (g.F.StableFile.faithful l.metadata.file) → ComesBy SameMarks g.F.StableFile.seen g.F.StableFile.may_leave l.fn.metadata l.metadata;
  marks : IsTrue (g.F.StableFile.faithful l.metadata.file) → SameMarks (g.F.StableFile.seen l.fn.metadata.file) (g.F.StableFile.seen l.metadata.file);
  left : IsTrue (g.F.StableFile.faithful l.metadata.file) → (x : ℕ) → x < l.number → entered_in (g.F.StableFile.seen l.metadata.file) x ≡ false;
  size : length l.metadata.entries ≡ l.number-end;
  identifiers : l.metadata.identifiers ≡ l.fn.metadata.identifiers;
  header : l.metadata.header ≡ l.fn.metadata.header;
  falls : IsTrue (g.F.StableFile.faithful l.metadata.file) → IsTrue (g.F.StableFile.faithful l.fn.metadata.file);
}
