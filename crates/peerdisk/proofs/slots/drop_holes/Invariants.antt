use Rattle.std.proofs.Common.{◌≡◌, ◌+◌, ◌≤◌}
use Rattle.std.specs.VecDeque.{deque_len, deque_capacity}
use Rattle.peerdisk.specs.Slots.{trimmed}
use Rattle.peerdisk.proofs.slots.drop_holes.Given as goal

abbrev pub invariant-loop-slots : goal.invariant-loop-slots
invariant-loop-slots l = record {
  slots : trimmed l.slots.items ≡ trimmed l.fn.slots.items;
  end : l.first + deque_len l.slots ≡ l.initial.first + deque_len l.fn.slots;
  later : l.initial.first ≤ l.first;
  capacity : deque_capacity l.slots ≡ deque_capacity l.fn.slots;
}

abbrev pub decreases-loop-slots : goal.decreases-loop-slots
decreases-loop-slots l = deque_len l.slots
