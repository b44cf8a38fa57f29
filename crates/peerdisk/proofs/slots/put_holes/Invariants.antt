use Rattle.std.proofs.Common.{◌≡◌, ◌≤◌, ◌-◌}
use Rattle.std.specs.VecDeque.{deque_len, deque_capacity}
use Rattle.peerdisk.specs.Slots.{padded}
use Rattle.peerdisk.proofs.slots.put_holes.Given as goal

abbrev pub invariant-loop-slots : goal.invariant-loop-slots
invariant-loop-slots l = record {
  len : deque_len l.slots ≤ l.len;
  capacity : deque_capacity l.slots ≡ deque_capacity l.fn.slots;
  slots : padded l.len l.slots.items ≡ padded l.len l.fn.slots.items;
}

abbrev pub decreases-loop-slots : goal.decreases-loop-slots
decreases-loop-slots l = l.len - deque_len l.slots
