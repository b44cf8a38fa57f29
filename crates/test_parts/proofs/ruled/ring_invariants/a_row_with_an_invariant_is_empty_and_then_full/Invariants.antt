-- What is kept of the row: no more pieces were taken than pushed.
use Rattle.std.proofs.Common.{◌≤◌, length}
use Rattle.test_parts.proofs.Fewer.{pushed_more, taken_more}
use Rattle.test_parts.proofs.ruled.ring_invariants.a_row_with_an_invariant_is_empty_and_then_full.Given as goal

abbrev pub ghosts-check_empty_and_then_full : goal.ghosts-check_empty_and_then_full
ghosts-check_empty_and_then_full g a = record {
  holds = λ pushed taken. length taken ≤ length pushed;
  push_keeps = pushed_more;
  take_keeps = taken_more;
}
