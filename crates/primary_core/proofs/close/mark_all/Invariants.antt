use Rattle.std.proofs.Common.{◌≡◌, ◌-◌, length}
use Rattle.bitmap.specs.Marks.{marking}
use Rattle.primary_protocol.specs.Transitions.{unreleased_blocks}
use Rattle.primary_core.proofs.Marking.{marked_from}
use Rattle.primary_core.proofs.close.mark_all.Given as goal

-- what the writes to come mark is what all mark of the first marks
abbrev pub invariant-loop-write : goal.invariant-loop-write
invariant-loop-write l = record {
  size : length l.marks ≡ length l.fn.marks;
  rest : marked_from l.number l.log.state.writes l.marks ≡ marking (unreleased_blocks l.log.state.writes) l.fn.marks;
}

-- no write has a number above 1,048,576
abbrev pub decreases-loop-write : goal.decreases-loop-write
decreases-loop-write l = 1048577 - l.number
