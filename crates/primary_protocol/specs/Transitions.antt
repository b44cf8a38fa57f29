-- The transitions of a primary: for each event its tests in order, its effect, and what follows.
use Rattle.std.specs.Prelude.{ℕ, zero, suc, ◌-◌, ◌*◌, ◌/◌, nat_lt, nat_le, ◌==◌, Bool, true, false, ◌&&◌, ◌||◌, not, if◌then◌else◌, List, [], ◌∷◌, ◌++◌, length}
use Rattle.std.specs.Prelude.{drop, Option, Some, None, is_some, is_none, unwrap_or, option_map, slice_get, ok_or, Result, Ok, Err}
use Rattle.std.specs.List.{list_any}
use Rattle.blocks.specs.declared.tuple.Tuple.{Tuple}
use Rattle.blocks.specs.declared.refusal.Refusal.{Refusal}
use Rattle.blocks.specs.declared.refusal.Refusal.TheVariants.{BadRange, Conflict, LogFull, ActivityFull, JournalFull, StreamFull, NoMemory, LocalFault}
use Rattle.blocks.specs.declared.refusal.Refusal.TheVariants.{NotCompleted, NothingToDo, LinkFull, NotConnected, NothingThere, ReadFault, UnknownJob}
use Rattle.blocks.specs.declared.refusal.Refusal.TheVariants.{UsedIdentifier, NotDrained}
use Rattle.blocks.specs.declared.outcome.Done.{Done}
use Rattle.blocks.specs.declared.outcome.What.{What}
use Rattle.blocks.specs.declared.outcome.What.TheVariants as what
use Rattle.blocks.specs.Contents.{blocks_of}
use Rattle.blocks.specs.Identifiers.{are_fresh, lost}
use Rattle.blocks.specs.Ranges.{is_between}
use Rattle.model.specs.Contents.{is_range, extent_of}
use Rattle.model.specs.Stream.{StreamItem, WriteItem, ResyncItem, number_of, is_write}
use Rattle.model.specs.Frames.{Packet, command_of, frame_of, hello_of}
use Rattle.model.specs.Refusals.{Test, done_with}
use Rattle.transferlog.specs.Log as log
use Rattle.transferlog.specs.Log.{LogState, connecting}
use Rattle.transferlog.specs.Ring.{write_at}
use Rattle.transferlog.specs.Writes.{LogWrite, is_waiting}
use Rattle.overlap.specs.Holdings as overlap
use Rattle.overlap.specs.Holdings.{Holding, holding, holding_too}
use Rattle.activitylog.specs.Activity.{begun, can_begin}
use Rattle.bitmap.specs.Marks.{marking}
use Rattle.resync.specs.Next.{next_block}
use Rattle.primary_protocol.specs.Core.{Fate, Open, Failed, Completed, JournalEntry, EndState, PrimaryState, tested, is_established, appending, with_entry}
use Rattle.primary_protocol.specs.Core.{reporting, following}

-- Open.

-- the tuples that a fresh word is not in: this node's, and the peer's if it was seen
abbrev pub known_tuples : PrimaryState → List Tuple
known_tuples s = elim s.peer [ None ↦ s.tuple ∷ [] | Some peer ↦ s.tuple ∷ peer ∷ [] ]

-- the tests of an opening, in order
abbrev pub open_tests : ℕ → ℕ → Bool → PrimaryState → List Test
open_tests sync loss out_of_memory s =
    (is_some s.end, NotDrained) ∷ (not (are_fresh sync loss (known_tuples s)), UsedIdentifier) ∷ (nat_le 4294967295 s.connections, StreamFull) ∷ (
      out_of_memory,
      NoMemory,
    ) ∷ []

-- a new connection, with its words and the tuple of its hello
abbrev pub opened : ℕ → ℕ → PrimaryState → PrimaryState
opened sync loss s = record s {
  connections = suc s.connections;
  end = Some (record { sync = sync; loss = loss; hello = s.tuple; hello_received = 0; hello_sent = 0; unsent = []; resync = false; under_way = None });
}

-- the primary opens its end
abbrev pub open_end : ℕ → ℕ → Bool → PrimaryState → Result (Unit {0}) Refusal × PrimaryState
open_end sync loss out_of_memory s = tested s (open_tests sync loss out_of_memory s) (λ _. (Ok tt, opened sync loss s))

-- Submit.

-- the blocks of these bytes, or none if they are not whole blocks
abbrev pub whole_blocks : List ℕ → List (List ℕ)
whole_blocks bytes = if 4096 * (length bytes / 4096) == length bytes then blocks_of 4096 bytes else []

-- the tests of a submission, in order
abbrev pub submit_tests : ℕ → ℕ → Bool → PrimaryState → List Test
submit_tests first count out_of_memory s =
    let met = overlap.conflict first count s.held in
    (not (is_range s.settings first count), BadRange) ∷ (not (is_established s) && (s.tuple.bitmap == 0), NotConnected) ∷ (
      nat_le 1048576 s.log.accepted,
      JournalFull,
    )
    ∷ (nat_le s.settings.backlog (length s.log.writes), LogFull) ∷ (is_some met, Conflict (unwrap_or met 0)) ∷ (
      not (can_begin (extent_of first) s.activity),
      ActivityFull,
    )
    ∷ (is_established s && nat_le 4294967288 s.log.epochs.places, StreamFull) ∷ (out_of_memory, NoMemory) ∷ []

-- Accepts the write: puts it in the log, inserts its interval, and counts it in its extent. On an established
-- connection it goes to the stream; without one its range is marked.
abbrev pub submitted : ℕ → ℕ → List ℕ → PrimaryState → Done × PrimaryState
submitted first count bytes s =
    let accepted = log.accepting first count bytes s.log in
    let number = accepted.0.number in
    let item = WriteItem (record { number = number; first = first; contents = whole_blocks bytes }) in
    let held : PrimaryState = record s {
      log = accepted.1;
      entries = s.entries ++ record { first = first; count = count; fate = Open; taken = false } ∷ [];
      held = holding_too (holding number first count) s.held;
      activity = begun (extent_of first) s.activity;
    } in
    elim (is_established s) [
      | true ↦ following (what.Write number) accepted.0.barrier (appending (item ∷ []) held)
      | false ↦ following (what.Write number) None (record held { marks = marking (is_between first count) s.marks })
    ]

-- the primary accepts a write of these bytes
abbrev pub submit : ℕ → List ℕ → Bool → PrimaryState → Result Done Refusal × PrimaryState
submit first bytes out_of_memory s =
    let count = length (whole_blocks bytes) in
    tested s (submit_tests first count out_of_memory s) (λ _. let after = submitted first count bytes s in (Ok after.0, after.1))

-- The local disk.

-- the local disk has neither written nor failed the write of this number
abbrev pub is_unfinished : ℕ → PrimaryState → Bool
is_unfinished number s = elim (write_at number s.log.writes) [ None ↦ false | Some w ↦ is_waiting w ]

-- applies a step of the log, and what follows it
abbrev pub logged : What → Option ℕ × LogState → PrimaryState → Done × PrimaryState
logged name change s = following name change.0 (record s { log = change.1 })

-- the local disk finishes a write
abbrev pub local_done : ℕ → PrimaryState → Result Done Refusal × PrimaryState
local_done number s =
    tested s ((not (is_unfinished number s), UnknownJob) ∷ []) (λ _. let after = logged what.Nothing (log.local_done number s.log) s in (Ok after.0, after.1))

-- records that the local disk failed a write: removes its interval, and marks its range
abbrev pub failing : ℕ → PrimaryState → PrimaryState
failing number s = elim (write_at number s.log.writes) [
  | None ↦ s
  | Some w ↦ record s {
    entries = with_entry number (λ entry. record entry { fate = Failed }) s.entries;
    held = overlap.without number s.held;
    marks = marking (is_between w.first w.count) s.marks;
  }
]

-- the local disk fails a write
abbrev pub local_fault : ℕ → PrimaryState → Result Done Refusal × PrimaryState
local_fault number s =
    tested s ((not (is_unfinished number s), UnknownJob) ∷ [])
    (λ _. let after = logged what.Nothing (log.local_fault number s.log) (failing number s) in (Ok after.0, after.1))

-- Send.

-- the place of the next item that is sent
abbrev pub next_place : EndState → PrimaryState → ℕ
next_place e s = s.log.epochs.places - length e.unsent

-- the next frame that an open end is to send: of its hello, and then of its stream
abbrev pub owed : EndState → PrimaryState → Option Packet
owed e s =
    if nat_lt e.hello_sent 3 then slice_get (hello_of s.settings e.hello) e.hello_sent
    else option_map (frame_of (next_place e s)) (slice_get e.unsent 0)

-- the next frame that is due, or why there is none
abbrev pub due : PrimaryState → Result Packet Refusal
due s = elim s.end [ None ↦ Err NotConnected | Some e ↦ ok_or (owed e s) NothingThere ]

-- the report of a frame: its command, and its place if it is an item of the stream
abbrev pub called : EndState → PrimaryState → Packet → What
called e s packet = what.Frame (command_of packet) (if nat_lt e.hello_sent 3 then None else Some (next_place e s))

-- records that an item was pushed, which may answer a write
abbrev pub pushed_item : What → Option StreamItem → PrimaryState → Done × PrimaryState
pushed_item name None s = (done_with name, s)
pushed_item name (Some item) s = if is_write item then logged name (log.sent (number_of item) s.log) s else (done_with name, s)

-- records that the due frame was pushed
abbrev pub sent_from : EndState → What → PrimaryState → Done × PrimaryState
sent_from e name s =
    if nat_lt e.hello_sent 3 then (done_with name, record s { end = Some (record e { hello_sent = suc e.hello_sent }) })
    else pushed_item name (slice_get e.unsent 0) (record s { end = Some (record e { unsent = drop 1 e.unsent }) })

-- the tests of pushing a due frame, in order
abbrev pub sent_tests : Bool → Bool → List Test
sent_tests room out_of_memory = (out_of_memory, NoMemory) ∷ (not room, LinkFull) ∷ []

-- the primary sends its next due frame; `room` says whether the link has room
abbrev pub send : Bool → Bool → PrimaryState → Result Done Refusal × PrimaryState
send room out_of_memory s = elim s.end [
  | None ↦ (Err NotConnected, s)
  | Some e ↦ elim (owed e s) [
    | None ↦ (Err NothingThere, s)
    | Some packet ↦ tested s (sent_tests room out_of_memory) (λ _. let after = sent_from e (called e s packet) s in (Ok after.0, after.1))
  ]
]

-- Close.

-- whether one of these unreleased writes covers the block
abbrev pub unreleased_blocks : List LogWrite → ℕ → Bool
unreleased_blocks writes block = list_any (λ w. is_between w.first w.count block) writes

-- the identifiers that a close would leave
abbrev pub stopped_tuple : PrimaryState → Tuple
stopped_tuple s = elim s.end [ None ↦ s.tuple | Some e ↦ if is_established s then lost e.loss s.tuple else s.tuple ]

-- Closes the end: marks unreleased writes, changes the tuple by `lost` if the stream had begun, and takes the
-- connection from every write. Gives how many writes that completed.
abbrev pub closing : EndState → PrimaryState → ℕ × PrimaryState
closing e s =
    let drained = log.drained s.log in
    let marked_all : PrimaryState = record s {
      marks = marking (unreleased_blocks s.log.writes) s.marks;
      tuple = if is_established s then lost e.loss s.tuple else s.tuple;
      held = overlap.without 0 s.held;
      log = drained.1;
      end = None;
    } in
    (drained.0, reporting marked_all)

-- the primary closes its end
abbrev pub close_end : PrimaryState → Result ℕ Refusal × PrimaryState
close_end s = elim s.end [ None ↦ (Err NotConnected, s) | Some e ↦ let after = closing e s in (Ok after.0, after.1) ]

-- Receipts.

-- records that the receipt of a number is taken
abbrev pub receipted : ℕ → PrimaryState → PrimaryState
receipted number s = record s { entries = with_entry number (λ entry. record entry { taken = true }) s.entries }

-- the entry of a number, the first being 1
abbrev pub entry_at : ℕ → PrimaryState → Option JournalEntry
entry_at zero s = None
entry_at (suc n) s = slice_get s.entries n

-- what a caller gets for a number: its entry, once; 8 for a failed write, once; 9 while it is open
abbrev pub completed_entry : Option JournalEntry → Result JournalEntry Refusal
completed_entry None = Err UnknownJob
completed_entry (Some entry) = if entry.taken then Err UnknownJob else by_fate entry.fate
  where
    by_fate : Fate → Result JournalEntry Refusal
    by_fate Open = Err NotCompleted
    by_fate Failed = Err LocalFault
    by_fate (Completed linked home) = Ok entry

-- whether the receipt counts as taken
abbrev pub is_given : Result JournalEntry Refusal → Bool
is_given (Ok entry) = true
is_given (Err LocalFault) = true
is_given _ = false

-- the caller takes the receipt of a write
abbrev pub take_completed : ℕ → PrimaryState → Result JournalEntry Refusal × PrimaryState
take_completed number s = let answer = completed_entry (entry_at number s) in (answer, if is_given answer then receipted number s else s)

-- Resync.

-- the tests of `resync_next`, in order
abbrev pub resync_tests : Bool → EndState → PrimaryState → List Test
resync_tests out_of_memory e s =
    (not e.resync || (is_some e.under_way || is_none (next_block s.marks s.held)), NothingToDo) ∷ (nat_le 4294967288 s.log.epochs.places, StreamFull) ∷
    (out_of_memory, NoMemory) ∷ []

-- puts the block under way, with these contents
abbrev pub copying : ℕ → List ℕ → EndState → PrimaryState → Done × PrimaryState
copying block contents e s =
    let placed = log.resync_placed s.log in
    let epoch = suc s.log.epochs.ended in
    following (what.Block (record { 0 = block }) placed.0) None (record s {
      log = placed.1;
      held = holding_too (holding 0 block 1) s.held;
      end = Some (record e {
        unsent = e.unsent ++ ResyncItem block contents ∷ [];
        under_way = Some (record { block = block; place = placed.0; epoch = epoch });
      });
    })

-- Reads from `disk` the lowest marked block that no interval covers, and appends it in the same step.
abbrev pub resync_next : (ℕ → List ℕ) → Bool → PrimaryState → Result Done Refusal × PrimaryState
resync_next disk out_of_memory s = elim s.end [
  | None ↦ (Err NotConnected, s)
  | Some e ↦ tested s (resync_tests out_of_memory e s) (λ _. elim (next_block s.marks s.held) [
    | None ↦ (Err NothingToDo, s)
    | Some block ↦ let after = copying block (disk block) e s in (Ok after.0, after.1)
  ])
]

-- the local disk fails the read, and nothing changes
abbrev pub resync_fault : Bool → PrimaryState → Result Done Refusal × PrimaryState
resync_fault out_of_memory s = elim s.end [
  | None ↦ (Err NotConnected, s)
  | Some e ↦ tested s (resync_tests out_of_memory e s) (λ _. (Err ReadFault, s))
]
