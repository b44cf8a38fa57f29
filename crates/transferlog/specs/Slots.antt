-- The slots of a ring as plain values: each has the write with its number, or none.
use Rattle.std.specs.Prelude.{ℕ, suc, ◌≡◌, ◌+◌, ◌-◌, ◌^◌, ◌<◌, ◌≤◌, List, [], ◌∷◌, length, Option, None, Some}
use Rattle.std.specs.VecDeque.{deque_len, deque_capacity}
use Rattle.transferlog.specs.Writes.{LogWrite}
use Rattle.transferlog.specs.Ring.{RingState, Each, WaitsFrom}
use Rattle.transferlog.specs.declared.ring.Ring.TheInside.{Inside}

-- the writes among these slots
abbrev pub writes_in : List (Option LogWrite) → List LogWrite
writes_in [] = []
writes_in (None ∷ slots) = writes_in slots
writes_in (Some w ∷ slots) = w ∷ writes_in slots

-- each write has the number of its slot; the first slot has this one
abbrev pub AreNumbered : ℕ → List (Option LogWrite) → Type 0
AreNumbered first [] = Unit {0}
AreNumbered first (None ∷ slots) = AreNumbered (suc first) slots
AreNumbered first (Some w ∷ slots) = (w.number ≡ first) × AreNumbered (suc first) slots

-- the fields as plain values
abbrev pub ring_of : Inside → RingState
ring_of r = record {
  writes = writes_in r.slots.items;
  next = r.first + deque_len r.slots;
  spare = deque_capacity r.slots - deque_len r.slots;
}

-- each write is in the slot of its number, they are counted, and none below `waiting` waits for the local disk
pub record IsRing (r : Inside) : Type 0 where
  pub numbered : AreNumbered r.first r.slots.items
  pub counted : r.count ≡ length (writes_in r.slots.items)
  pub first : 0 < r.first
  pub small : r.first + deque_len r.slots ≤ 2 ^ 32
  pub waiting : Each (WaitsFrom r.waiting) (writes_in r.slots.items)
  pub waiting_within : r.waiting ≤ r.first + deque_len r.slots
