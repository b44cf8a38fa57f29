use Rattle.std.proofs.Common.{◌≡◌, ◌+◌, ◌≤◌, drop, length}
use Rattle.std.specs.Prelude.{filter}
use Rattle.transferlog.specs.Writes.{is_unanswered}
use Rattle.transferlog.specs.Slots.{writes_in}
use Rattle.transferlog.proofs.ring.Ring.unanswered.Given as goal

abbrev pub invariant-loop-index : goal.invariant-loop-index
invariant-loop-index l = record {
  counted : l.count + length (filter is_unanswered (writes_in (drop l.index l.self-inside.slots.items))) ≡ length
      (filter is_unanswered (writes_in l.self-inside.slots.items));
  few : l.count ≤ l.index;
}
