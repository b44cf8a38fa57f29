use Rattle.std.proofs.Common.{ℕ, ◌≡◌, ◌+◌, ◌≤◌, length}
use Rattle.std.specs.VecDeque.{deque_len, deque_capacity}
use Rattle.slab.specs.Slab.{slab_len}
use Rattle.peerdisk.specs.Items.{Holds, filled}
use Rattle.peerdisk.specs.Slots.{AreInOrder, pending_from}
use Rattle.peerdisk.proofs.Ends.{kept}
use Rattle.peerdisk.proofs.slots.drop_later.Given as goal

abbrev pub invariant-loop-last : goal.invariant-loop-last
invariant-loop-last g l = record {
  order : AreInOrder (pending_from 0 (filled l.items l.slots.items));
  items : (first : ℕ) → kept l.epoch (pending_from first (filled l.items l.slots.items)) ≡ kept l.epoch
      (pending_from first (filled l.fn.items l.fn.slots.items));
  count : (first : ℕ) → l.dropped + length (pending_from first (filled l.items l.slots.items)) ≡ length
      (pending_from first (filled l.fn.items l.fn.slots.items));
  held : Holds l.items l.slots.items;
  many : slab_len l.items + l.dropped ≡ slab_len l.fn.items;
  room : l.items.capacity ≡ l.fn.items.capacity;
  len : deque_len l.slots ≤ deque_len l.fn.slots;
  capacity : deque_capacity l.slots ≡ deque_capacity l.fn.slots;
}

abbrev pub decreases-loop-last : goal.decreases-loop-last
decreases-loop-last g l = deque_len l.slots
