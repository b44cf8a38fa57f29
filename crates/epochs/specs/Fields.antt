-- The fields of a stream's epochs as plain values, and their invariant.
use Rattle.std.specs.Prelude.{◌-◌, ◌≡◌, ◌<◌, ◌≤◌, true}
use Rattle.std.specs.VecDeque.{deque_len, deque_capacity}
use Rattle.epochs.specs.Epochs.{EpochsState, EpochsValue}
use Rattle.epochs.specs.declared.epochs.Epochs.TheInside.{Inside}

-- the fields as plain values
abbrev pub state_of : Inside → EpochsState
state_of e = record {
  max_epoch = e.max_epoch;
  places = e.places;
  ended = e.ended;
  sizes = e.sizes.items;
  size = e.size;
  first = e.first;
  resync = e.resync;
}

-- the fields as plain values, with the room for more
abbrev pub value_of : Inside → EpochsValue
value_of e = record { state = state_of e; spare = deque_capacity e.sizes - deque_len e.sizes }

-- Each barrier has a place, and is acknowledged once; the last epoch is not full; if it has an item, there is a place
-- for its barrier, and room for its size.
pub record IsKept (e : Inside) : Type 0 where
  pub barriers : e.ended ≤ e.places
  pub acknowledged : deque_len e.sizes ≤ e.ended
  pub short : e.size < e.max_epoch
  pub small : e.max_epoch ≤ 20000
  pub places : e.places ≤ 4294967291
  pub place_for_write : 0 < e.size → e.places ≤ 4294967290
  pub place_for_resync : e.resync ≡ true → e.places ≤ 4294967290
  pub room_for_write : 0 < e.size → deque_len e.sizes < deque_capacity e.sizes
  pub room_for_resync : e.resync ≡ true → deque_len e.sizes < deque_capacity e.sizes
