use Rattle.std.proofs.Common.{◌≡◌, ◌+◌, ◌<◌, ◌==◌, ℕ, not, slice_index}
use Rattle.bitmap.specs.Marks.{marked}
use Rattle.kept_nodes.proofs.recording.are_filed.Given as goal

-- each block so far is marked in the file just as it is here
abbrev pub invariant-loop-offset : goal.invariant-loop-offset
invariant-loop-offset l = (offset : ℕ) → offset < l.offset → not (slice_index l.filed offset == 0) ≡ marked l.marks (l.first + offset)
