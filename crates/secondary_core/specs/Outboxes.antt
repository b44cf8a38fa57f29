-- The fields of an outbox as plain values.
use Rattle.std.specs.Prelude.{ℕ, ◌+◌, ◌<◌, ◌^◌, ◌++◌, List, [], drop, length}
use Rattle.std.specs.VecDeque.{deque_capacity}
use Rattle.model.specs.Frames.{Packet}
use Rattle.model.specs.Stream.{StreamItem}
use Rattle.peerdisk.specs.Pending.{Pending}
use Rattle.secondary_protocol.specs.Core.{answers}
use Rattle.secondary_core.specs.declared.outbox.Outbox.TheInside.{Inside}

-- What is due; how many epochs are acknowledged or have their acknowledgement due, and the sizes of the others that a
-- barrier ended; and how many acknowledgements and how many sizes there is room for.
pub record OutboxState : Type 0 where
  pub due : List Packet
  pub answered : ℕ
  pub sizes : List ℕ
  pub answers : ℕ
  pub epochs : ℕ

-- the fields as plain values
abbrev pub outbox_of : Inside → OutboxState
outbox_of o = record {
  due = o.due.items;
  answered = o.answered;
  sizes = o.sizes.items;
  answers = deque_capacity o.due;
  epochs = deque_capacity o.sizes;
}

-- the numbers of epochs fit
abbrev pub IsOutbox : Inside → Type 0
IsOutbox o = o.answered + length o.sizes.items < 2 ^ 32

-- nothing is due, and no epoch was ended
abbrev pub begun : ℕ → ℕ → OutboxState
begun answers epochs = record { due = []; answered = 0; sizes = []; answers = answers; epochs = epochs }

-- makes the acknowledgement due of each ended epoch whose items, and all before them, are applied
abbrev pub acknowledging : List (Pending StreamItem) → OutboxState → OutboxState
acknowledging pending o =
    let new = answers pending o.answered o.sizes in
    record o { due = o.due ++ new; answered = o.answered + length new; sizes = drop (length new) o.sizes }
