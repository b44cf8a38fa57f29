use Rattle.std.proofs.Common.{◌≡◌, ◌<◌, ◌≤◌, ℕ}
use Rattle.bitmap.specs.Marks.{marked}
use Rattle.kept_nodes.proofs.recording.end_of_run.Given as goal

-- the blocks so far are marked as the first one is
abbrev pub invariant-loop-block : goal.invariant-loop-block
invariant-loop-block l = (block : ℕ) → l.from ≤ block → block < l.block → marked l.marks block ≡ marked l.marks l.from
