-- The fields of a transfer log as plain values, and their invariant.
use Rattle.std.specs.Prelude.{ℕ, ◌≡◌, ◌+◌, ◌-◌, ◌<◌, ◌≤◌, ◌/◌, false, length, min, sum, vec_capacity, Option, None, IfSome, option_map}
use Rattle.std.specs.List.{AllByRecursion}
use Rattle.transferlog.specs.Writes.{LogWrite, is_released}
use Rattle.transferlog.specs.Ring.{Each}
use Rattle.transferlog.specs.LastWrites.{IsApart, IsNotedRelease, IsNotedWrite}
use Rattle.transferlog.specs.Log.{LogState, LogValue}
use Rattle.transferlog.specs.declared.log.TransferLog.TheInside.{Inside}

-- the index of a connection, by its number, which is counted from 1
abbrev pub index_of : Option ℕ → Option ℕ
index_of connection = option_map (λ number. number - 1) connection

-- the fields as plain values
abbrev pub log_of : Inside → LogState
log_of l = record {
  protocol = l.protocol;
  backlog = l.backlog;
  accepted = l.accepted;
  connection = index_of l.connection;
  acknowledged_through = l.acknowledged_through;
  last_writes = l.last_writes.numbers;
  writes = l.ring.writes;
  epochs = l.epochs.state;
  released = l.released.items;
  completed = l.completed.items;
}

-- the fields as plain values, with the room for more; a write has up to 32 blocks
abbrev pub value_of : Inside → LogValue
value_of l = record { state = log_of l; spare = min (min l.ring.spare l.epochs.spare) (l.last_writes.spare / 32) }

-- the write is not released
abbrev pub IsKept : ℕ → LogWrite → Type 0
IsKept acknowledged_through w = is_released acknowledged_through w ≡ false

-- the write has no connection
abbrev pub IsAlone : LogWrite → Type 0
IsAlone w = w.linked ≡ false

-- Invariant: no write in the ring is released, the connection is counted from 1, no write has one while none is
-- established, there are at most `backlog` writes, and there is room for what a call reports; the epochs' writes were
-- accepted after the acknowledged ones; the last writes are those of the device's blocks, and each write in the ring or
-- released by the last call is noted there.
pub record IsLog (l : Inside) : Type 0 where
  pub next : l.ring.next ≡ l.accepted + 1
  pub few_accepted : l.accepted ≤ 1048576
  pub kept : Each (IsKept l.acknowledged_through) l.ring.writes
  pub numbered : IfSome l.connection (λ number. 0 < number)
  pub alone : l.connection ≡ None → Each IsAlone l.ring.writes
  pub few : length l.ring.writes ≤ l.backlog
  pub some : 0 < l.backlog
  pub room_for_released : l.backlog ≤ vec_capacity l.released
  pub room_for_completed : l.backlog ≤ vec_capacity l.completed
  pub acknowledged_through : l.acknowledged_through + (sum l.epochs.state.sizes + l.epochs.state.size) ≤ l.accepted
  pub begun : 0 < l.epochs.state.size → l.epochs.state.first + l.epochs.state.size ≤ l.accepted + 1
  pub sized : length l.last_writes.numbers ≡ l.blocks
  pub noted : Each (IsNotedWrite l.last_writes) l.ring.writes
  pub reported : AllByRecursion (IsNotedRelease l.last_writes) l.released.items
  pub apart : Each (IsApart l.released.items) l.ring.writes
