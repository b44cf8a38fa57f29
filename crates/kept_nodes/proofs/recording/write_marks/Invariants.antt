use Rattle.std.proofs.Common.{◌≡◌, ◌-◌, ◌≤◌}
use Rattle.std.specs.Prelude.{IsTrue}
use Rattle.kept_nodes.specs.Recorded.{ComesBy, OnlyMarksOf}
use Rattle.kept_nodes.proofs.Writing.{HasMarksFrom}
use Rattle.kept_nodes.proofs.recording.write_marks.Given as goal

-- the marks of the blocks so far are written, and nothing else has changed
abbrev pub invariant-loop-from : goal.invariant-loop-from
invariant-loop-from g l = record {
  after : l.first ≤ l.from;
  before : l.from ≤ l.end;
  memory : l.metadata ≡ record l.fn.metadata { file = l.metadata.file };
  falls : IsTrue (g.F.StableFile.faithful l.metadata.file) → IsTrue (g.F.StableFile.faithful l.fn.metadata.file);
  comes : IsTrue (g.F.StableFile.faithful l.metadata.file)
      → ComesBy (OnlyMarksOf l.fn.extent.0) g.F.StableFile.seen g.F.StableFile.may_leave l.fn.metadata l.metadata;
  others : IsTrue (g.F.StableFile.faithful l.metadata.file)
      → OnlyMarksOf l.fn.extent.0 (g.F.StableFile.seen l.fn.metadata.file) (g.F.StableFile.seen l.metadata.file);
  written : IsTrue (g.F.StableFile.faithful l.metadata.file) → HasMarksFrom l.first l.from l.marks (g.F.StableFile.seen l.metadata.file);
}

abbrev pub decreases-loop-from : goal.decreases-loop-from
decreases-loop-from g l = l.end - l.from
