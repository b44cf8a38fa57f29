-- The transfer log in plain values, and how each call changes it. The rules are this project's, after the DRBD User's
-- Guide, "Replication modes", and DRBD's transfer log.
use Rattle.std.specs.Prelude.{ℕ, ◌+◌, ◌==◌, Bool, true, false, ◌&&◌, not, if◌then◌else◌, List, [], ◌∷◌, ◌++◌, length, take, drop, map, filter, replicate}
use Rattle.std.specs.Prelude.{slice_get, Option, Some, None, is_some, Result, Ok, Err}
use Rattle.std.specs.List.{list_any}
use Rattle.transferlog.specs.declared.local.Local.TheVariants.{Waiting}
use Rattle.std.specs.Option.{option_map}
use Rattle.blocks.specs.Positions.{StreamPosition}
use Rattle.blocks.specs.declared.settings.Protocol.{Protocol}
use Rattle.blocks.specs.declared.settings.Protocol.TheVariants as protocol
use Rattle.epochs.specs.Epochs.{EpochsState, empty, completing, placed, uncounted, is_awaited, acknowledging}
use Rattle.transferlog.specs.Writes.{LogWrite, is_open, is_completed, is_released, completed_of, released_of, awaits, sending, answering, storing, failing}
use Rattle.transferlog.specs.Writes.{unlinking}
use Rattle.transferlog.specs.Ring.{on, write_at}
use Rattle.transferlog.specs.declared.report.Accepted.{Accepted}
use Rattle.blocks.specs.Contents.{blocks_of}
use Rattle.blocks.specs.Ranges.{is_between}
use Rattle.blocks.specs.declared.refusal.Refusal.{Refusal}
use Rattle.blocks.specs.declared.refusal.Refusal.TheVariants.{BadBarrierAck, UnknownAck}
use Rattle.transferlog.specs.declared.report.PeerAck.{PeerAck}
use Rattle.transferlog.specs.declared.report.PeerAck.TheVariants.{Received, Written}
use Rattle.transferlog.specs.declared.report.Completed.{Completed}
use Rattle.transferlog.specs.declared.report.AckedWrite.{AckedWrite}
use Rattle.transferlog.specs.declared.report.Released.{Released}

-- The state of the log: the protocol and the most unreleased writes; how many writes were accepted, which is also the
-- last number; the index of the established connection; the number up to which every write with a connection has its
-- epoch's acknowledgement; for each block of the device, the number of the last accepted write that covers it, or 0;
-- the unreleased writes by rising number; the epochs of the stream; and what the last call released and completed, by
-- rising number.
pub record LogState : Type 0 where
  pub protocol : Protocol
  pub backlog : ℕ
  pub accepted : ℕ
  pub connection : Option ℕ
  pub acknowledged_through : ℕ
  pub last_writes : List ℕ
  pub writes : List LogWrite
  pub epochs : EpochsState
  pub released : List Released
  pub completed : List Completed

-- a log, and for how many more items, each with a barrier, there is room
pub record LogValue : Type 0 where
  pub state : LogState
  pub spare : ℕ

-- a log with no write, of a device of `blocks` blocks
abbrev pub empty_log : Protocol → ℕ → ℕ → ℕ → LogState
empty_log protocol blocks max_epoch backlog = record {
  protocol = protocol;
  backlog = backlog;
  accepted = 0;
  connection = None;
  acknowledged_through = 0;
  last_writes = replicate blocks 0;
  writes = [];
  epochs = empty max_epoch;
  released = [];
  completed = [];
}

-- begins the stream of the connection with this index: it has no item, and no write has that connection yet
abbrev pub connecting : ℕ → LogState → LogState
connecting index s = record s { connection = Some index; acknowledged_through = s.accepted; epochs = empty s.epochs.max_epoch; released = []; completed = [] }

-- Changes each write by `f`, with every write with a connection and a number up to `acknowledged_through` acknowledged: reports
-- the open writes that are completed by it and the writes that are released by it, and keeps the others.
abbrev pub moved : (LogWrite → LogWrite) → ℕ → LogState → LogState
moved f acknowledged_through s = record {
  protocol = s.protocol;
  backlog = s.backlog;
  accepted = s.accepted;
  connection = s.connection;
  acknowledged_through = acknowledged_through;
  last_writes = s.last_writes;
  writes = filter (λ w. not (is_released acknowledged_through w)) (map f s.writes);
  epochs = s.epochs;
  released = map released_of (filter (is_released acknowledged_through) (map f s.writes));
  completed = map completed_of (filter is_completed (map f (filter is_open s.writes)));
}

-- whether the change takes some write out of the open state
abbrev pub closes_any : (LogWrite → LogWrite) → LogState → Bool
closes_any f s = list_any (λ w. is_open w && not (is_open (f w))) s.writes

-- the barrier that is appended if a write was completed or failed, and the stream's epochs afterwards
abbrev pub ended_by : Bool → ℕ → EpochsState → Option ℕ × EpochsState
ended_by closed number e = if closed then completing number e else (None, e)

-- Changes one write by `f`: the barrier that is appended if that ends the last epoch, and the log afterwards.
abbrev pub changing : ℕ → (LogWrite → LogWrite) → LogState → Option ℕ × LogState
changing number f s =
    let ended = ended_by (closes_any (on number f) s) number s.epochs in
    (ended.0, record (moved (on number f) s.acknowledged_through s) { epochs = ended.1 })

-- whether a write is answered once its frame is in the link's queue
abbrev pub answers_sent : Protocol → Bool
answers_sent protocol.A = true
answers_sent protocol.B = false
answers_sent protocol.C = false

-- records that a write's frame is in the link's queue
abbrev pub sent : ℕ → LogState → Option ℕ × LogState
sent number s = changing number (sending (answers_sent s.protocol)) s

-- records that a write is on the local disk
abbrev pub local_done : ℕ → LogState → Option ℕ × LogState
local_done number s = changing number storing s

-- records that the local disk failed a write
abbrev pub local_fault : ℕ → LogState → Option ℕ × LogState
local_fault number s = changing number failing s

-- Accepting a write, with a connection or without one.

-- the last write of each block, after this one covers the blocks of a range
abbrev pub with_last_write : ℕ → ℕ → ℕ → List ℕ → List ℕ
with_last_write number first count last_writes = take first last_writes ++ replicate count number ++ drop (first + count) last_writes

-- the write that is accepted next, at its home, or without one
abbrev pub accepted_write : ℕ → ℕ → List ℕ → Option StreamPosition → LogState → LogWrite
accepted_write first count contents home s = record {
  number = s.accepted + 1;
  first = first;
  count = count;
  contents = contents;
  blocks = blocks_of 4096 contents;
  home = home;
  linked = is_some home;
  sent = false;
  answered = false;
  local = Waiting;
}

-- the log with an accepted write
abbrev pub with_write : LogWrite → EpochsState → LogState → LogState
with_write w e s = record s {
  accepted = w.number;
  last_writes = with_last_write w.number w.first w.count s.last_writes;
  writes = s.writes ++ w ∷ [];
  epochs = e;
  released = [];
  completed = [];
}

-- The home of the next write: the next place of the stream, if a connection is established. It comes with the barrier
-- that follows it, and the epochs afterwards.
abbrev pub home_in : Option ℕ → ℕ → EpochsState → Option StreamPosition × (Option ℕ × EpochsState)
home_in None number e = (None, (None, e))
home_in (Some index) number e = let answer = placed number e in (Some (record { index = index; place = answer.0 }), answer.1)

-- Accepts a write: its number, place and barrier, and the log afterwards.
abbrev pub accepting : ℕ → ℕ → List ℕ → LogState → Accepted × LogState
accepting first count contents s =
    let home = home_in s.connection (s.accepted + 1) s.epochs in (
      record { number = s.accepted + 1; place = option_map (λ h. h.place) home.0; barrier = home.1.0 },
      with_write (accepted_write first count contents home.0 s) home.1.1 s,
    )

-- The stream's other items.

-- the log with these epochs, and nothing released or completed
abbrev pub quiet : EpochsState → LogState → LogState
quiet e s = record s { epochs = e; released = []; completed = [] }

-- gives a resync item the next place
abbrev pub resync_placed : LogState → ℕ × LogState
resync_placed s = let answer = placed 0 s.epochs in (answer.0, quiet answer.1.1 s)

-- records a resync item's acknowledgement: the barrier that is appended, and the log afterwards
abbrev pub resync_acked : LogState → Option ℕ × LogState
resync_acked s = let ended = completing 0 s.epochs in (ended.0, quiet ended.1 s)

-- gives an item that no epoch counts the next place
abbrev pub uuids_placed : LogState → ℕ × LogState
uuids_placed s = let answer = uncounted s.epochs in (answer.0, quiet answer.1 s)

-- The peer's answers.

-- whether the protocol asks for this kind of answer
abbrev pub is_asked : Protocol → PeerAck → Bool
is_asked protocol.A kind = false
is_asked protocol.B Received = true
is_asked protocol.B Written = false
is_asked protocol.C Received = false
is_asked protocol.C Written = true

-- whether there is a write, and it awaits this answer
abbrev pub awaits_in : Option LogWrite → AckedWrite → Bool
awaits_in None of = false
awaits_in (Some w) of = awaits of w

-- The peer answers a write: the barrier that is appended, and the log afterwards. An answer that no write awaits is
-- refused.
abbrev pub acked : PeerAck → AckedWrite → LogState → Result (Option ℕ) Refusal × LogState
acked kind of s =
    let answer = changing of.number answering s in
    if is_asked s.protocol kind && awaits_in (write_at of.number s.writes) of then (Ok answer.0, answer.1) else (Err UnknownAck, s)

-- The peer acknowledges an epoch.

-- whether some write of the next epoch to be acknowledged, which has this size, is not answered
abbrev pub lacks_answer : ℕ → LogState → Bool
lacks_answer size s = list_any (λ w. is_between (s.acknowledged_through + 1) size w.number && not w.answered) s.writes

-- whether the protocol asks for answers at all
abbrev pub asks_answers : Protocol → Bool
asks_answers protocol.A = false
asks_answers protocol.B = true
asks_answers protocol.C = true

-- whether a barrier may be acknowledged: it is the oldest, with its epoch's size, and every write of the epoch has the
-- answer that the protocol asks for
abbrev pub may_confirm : ℕ → ℕ → LogState → Bool
may_confirm number size s = is_awaited number size s.epochs && not (asks_answers s.protocol && lacks_answer size s)

-- the log after an epoch of this size is acknowledged: its settled writes are released, and nothing is completed
abbrev pub confirming : ℕ → ℕ → LogState → LogState
confirming number size s = record s {
  acknowledged_through = s.acknowledged_through + size;
  writes = filter (λ w. not (is_released (s.acknowledged_through + size) w)) s.writes;
  epochs = (acknowledging number size s.epochs).1;
  released = map released_of (filter (is_released (s.acknowledged_through + size)) s.writes);
  completed = [];
}

-- The peer acknowledges a barrier by its number and the size of its epoch.
abbrev pub barrier_acked : ℕ → ℕ → LogState → Result (Unit {0}) Refusal × LogState
barrier_acked number size s =
    if may_confirm number size s then (Ok tt, confirming number size s) else (Err BadBarrierAck, s)

-- The connection is closed.

-- the log after its connection is closed: no stream is open, and no write has a connection
abbrev pub draining : LogState → LogState
draining s = record (moved unlinking s.acknowledged_through s) { connection = None; epochs = empty s.epochs.max_epoch }

-- Closes the connection: how many writes that completed, and the log afterwards.
abbrev pub drained : LogState → ℕ × LogState
drained s = (length (draining s).completed, draining s)

-- Marks.

-- whether there is a number, and it is this one
abbrev pub is_number : ℕ → Option ℕ → Bool
is_number number None = false
is_number number (Some last_writes) = last_writes == number

-- Whether a release clears the mark of a block: the write clears marks, it covers the block, and no later write does.
abbrev pub clears : Released → ℕ → List ℕ → Bool
clears r block last_writes = (r.clears && is_between r.first r.count block) && is_number r.number (slice_get last_writes block)
