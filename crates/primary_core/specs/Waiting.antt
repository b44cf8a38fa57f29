-- The fields of the due items as plain values, and their invariant.
use Rattle.std.specs.Prelude.{◌≡◌, ◌-◌, true, length}
use Rattle.std.specs.VecDeque.{deque_len, deque_capacity}
use Rattle.primary_core.specs.Outbox.{OutboxState, numbers, run}
use Rattle.primary_core.specs.declared.outbox.Outbox.TheInside.{Inside}

-- the items, with the room for more
abbrev pub outbox_of : Inside → OutboxState
outbox_of u = record { items = u.items.items; room = deque_capacity u.items - deque_len u.items }

-- The barriers are counted, and if they are said to be a run, their numbers are consecutive from the first one on.
pub record IsOutbox (u : Inside) : Type 0 where
  pub counted : u.barriers ≡ length (numbers u.items.items)
  pub runs : u.is_run ≡ true → numbers u.items.items ≡ run u.first u.barriers
