use Rattle.std.proofs.Common.{◌≡◌, ◌+◌, ◌<◌, ◌==◌, ℕ, true, not, slice_index}
use Rattle.bitmap.specs.Marks.{marked}
use Rattle.kept_nodes.proofs.keeping.has_each.Given as goal

-- each marked block so far has its mark in the file
abbrev pub invariant-loop-offset : goal.invariant-loop-offset
invariant-loop-offset l = (offset : ℕ) → offset < l.offset → marked l.marks (l.first + offset) ≡ true → not (slice_index l.filed offset == 0) ≡ true
