-- The state after the local disk fails a write.
use Rattle.std.specs.Prelude.{ℕ}
use Rattle.blocks.specs.Ranges.{is_between}
use Rattle.bitmap.specs.Marks.{marking}
use Rattle.overlap.specs.Holdings as overlap
use Rattle.primary_protocol.specs.Core.{Failed, PrimaryState, with_entry}

-- records the write of these blocks as failed, removes its interval, and marks its range
abbrev pub given_up : ℕ → ℕ → ℕ → PrimaryState → PrimaryState
given_up number first count s = record s {
  entries = with_entry number (λ entry. record entry { fate = Failed }) s.entries;
  held = overlap.without number s.held;
  marks = marking (is_between first count) s.marks;
}
