-- The local steps of a primary: for each event its tests in order, its effect, and what follows in the same step.
use Rattle.std.specs.Prelude.{ℕ, suc, ◌-◌, nat_lt, nat_le, ◌==◌, Bool, true, false, ◌&&◌, ◌||◌, not, if◌then◌else◌, List, [], ◌∷◌, ◌++◌, length, map, filter}
use Rattle.std.specs.Prelude.{find, Option, Some, None, is_some, is_none, slice_get, unwrap_or, Result, Ok, Err}
use Rattle.std.specs.List.{list_any}
use Rattle.blocks.specs.declared.tuple.Tuple.{Tuple}
use Rattle.blocks.specs.declared.refusal.Refusal.{Refusal}
use Rattle.blocks.specs.declared.refusal.Refusal.TheVariants.{BadRange, Conflict, LogFull, ActivityFull, JournalFull, StreamFull, NoMemory, LocalFault}
use Rattle.blocks.specs.declared.refusal.Refusal.TheVariants.{NotCompleted, NothingToDo, LinkFull, NotConnected, NothingThere, ReadFault, UnknownJob}
use Rattle.blocks.specs.declared.refusal.Refusal.TheVariants.{UsedIdentifier, NotDrained}
use Rattle.blocks.specs.declared.outcome.What.{What}
use Rattle.blocks.specs.declared.outcome.What.TheVariants as what
use Rattle.blocks.specs.declared.outcome.Reply.{Reply}
use Rattle.blocks.specs.declared.outcome.Reply.TheVariants as reply
use Rattle.model.specs.Contents.{Write, covers, overlap, is_range, extent_of}
use Rattle.model.specs.Stream.{StreamItem, WriteItem, ResyncItem, BarrierItem, UuidsItem, number_of, is_write, last_epoch, epoch_size, items_of_epoch, within}
use Rattle.model.specs.Frames.{command_of}
use Rattle.model.specs.Identifiers.{are_fresh, lost, sync_end}
use Rattle.model.specs.Refusals.{Test, first_refusal}
use Rattle.model.specs.Primary.{LocalOutcome, Waiting, OnDisk, Failed, Accepted, Linked, Alone, Completion, PrimaryConnection, PrimaryHistory}
use Rattle.model.specs.Primary.{new_primary_connection, primary_connection, last_index}
use Rattle.model.specs.Primary.{with_primary_connection, is_established, frames_due, was_resynced, is_answered, is_waiting, is_open, completes, unreleased}
use Rattle.model.specs.Primary.{open_writes, local_map}
use Rattle.model.specs.Primary.{active_extents, is_resync, resync_runs, under_way, marked_blocks, free_block}
use Rattle.model.specs.Marks.{marking, marking_unreleased, releasing}

-- What follows an effect in the same step.

-- A step's outcome: the history, the numbers that were completed, the barrier that was appended, whether a resync
-- ended.
pub record Followed : Type 0 where
  pub history : PrimaryHistory
  pub completed : List ℕ
  pub barrier : Option ℕ
  pub synced : Bool

-- the open writes that can be completed now
abbrev pub newly_completed : PrimaryHistory → List Accepted
newly_completed h = filter (λ accepted. is_open h accepted && completes h accepted) h.writes

-- a write's entry in the journal: over the link, if the peer has answered it as the protocol asks, or else alone
abbrev pub completion_of : PrimaryHistory → Accepted → Completion
completion_of h accepted = record { write = accepted.write; kind = if is_answered h accepted then Linked else Alone; home = accepted.home }

-- Appends the writes that can be completed now to the journal, by rising number.
abbrev pub with_completions : PrimaryHistory → PrimaryHistory
with_completions h = record h { journal = h.journal ++ map (completion_of h) (newly_completed h) }

-- a write that is completed or failed, or a resync item that is acknowledged
abbrev pub is_settled : PrimaryHistory → PrimaryConnection → ℕ × StreamItem → Bool
is_settled h c entry =
    list_any (λ accepted. (is_write entry.1 && (accepted.write.number == number_of entry.1)) && not (is_open h accepted)) h.writes
    || (is_resync entry.1 && was_resynced c entry.0 entry.1)

-- The last epoch of an established connection is over: one of its items is settled, or it has `max_epoch` writes.
abbrev pub epoch_is_over : PrimaryHistory → Bool
epoch_is_over h =
    let c = primary_connection h in
    is_established c && (list_any (is_settled h c) (items_of_epoch c.stream (last_epoch c.stream)) || nat_le h.settings.max_epoch
    (epoch_size c.stream (last_epoch c.stream)))

-- appends an item to the stream
abbrev pub appending : StreamItem → PrimaryHistory → PrimaryHistory
appending item h = with_primary_connection (λ c. record c { stream = c.stream ++ item ∷ [] }) h

-- A running resync is over: no block is marked, and none is under way.
abbrev pub resync_is_over : PrimaryHistory → Bool
resync_is_over h = elim (resync_runs (primary_connection h)) [
  | false ↦ false
  | true ↦ (length (marked_blocks h) == 0) && (length (under_way (primary_connection h)) == 0)
]

-- ends a resync at its source: changes the tuple by `sync_end`, and appends it to the stream as UUIDS
abbrev pub ending_resync : PrimaryHistory → PrimaryHistory
ending_resync h = appending (UuidsItem (sync_end h.tuple)) (record h { tuple = sync_end h.tuple })

-- the outcome of a step, with the end of the resync if that is over
abbrev pub followed_with : (over : Bool) → PrimaryHistory → List ℕ → Option ℕ → Followed
followed_with over h completed barrier = elim over [
  | true ↦ record { history = ending_resync h; completed = completed; barrier = barrier; synced = true }
  | false ↦ record { history = h; completed = completed; barrier = barrier; synced = false }
]

-- What follows an effect: the completions in the journal, then the barrier, then the end of the resync.
abbrev pub follows : PrimaryHistory → Followed
follows h =
    let completed = with_completions h in
    let numbers = map (λ accepted. accepted.write.number) (newly_completed h) in
    let epoch = last_epoch (primary_connection completed).stream in
    let over = epoch_is_over completed in
    let parted : PrimaryHistory = elim over [ true ↦ appending (BarrierItem epoch) completed | false ↦ completed ] in
    followed_with (resync_is_over parted) parted numbers (if over then Some epoch else None)

-- A step that succeeds: its report, and the history after what follows.
abbrev pub succeeding : What → PrimaryHistory → Reply × PrimaryHistory
succeeding done h =
    let after = follows h in
    (reply.Ok (record { what = done; completed = slice_get after.completed 0; barrier = after.barrier; synced = after.synced }), after.history)

-- A step that its tests refuse leaves the history as it is; otherwise `done` is its outcome.
abbrev pub tested : PrimaryHistory → List Test → (Unit {0} → Reply × PrimaryHistory) → Reply × PrimaryHistory
tested h tests done = elim (first_refusal tests) [ Some refusal ↦ (reply.Refused refusal, h) | None ↦ done tt ]

-- Open.

-- the tuples that a fresh word is not in: this node's, and the peer's if it was seen
abbrev pub known_tuples : PrimaryHistory → List Tuple
known_tuples h = elim h.peer [ None ↦ h.tuple ∷ [] | Some peer ↦ h.tuple ∷ peer ∷ [] ]

-- the tests of an opening, in order
abbrev pub open_tests : PrimaryHistory → ℕ → ℕ → Bool → List Test
open_tests h sync loss out_of_memory =
    (not (primary_connection h).closed, NotDrained) ∷ (not (are_fresh sync loss (known_tuples h)), UsedIdentifier)
    ∷ (nat_le 4294967295 (length h.connections), StreamFull) ∷ (out_of_memory, NoMemory) ∷ []

-- a new connection, with its words and the tuple of its hello
abbrev pub opened : PrimaryHistory → ℕ → ℕ → PrimaryHistory
opened h sync loss = record h { connections = h.connections ++ new_primary_connection sync loss h.tuple ∷ [] }

-- the primary opens its end
abbrev pub open_primary : ℕ → ℕ → Bool → PrimaryHistory → Reply × PrimaryHistory
open_primary sync loss out_of_memory h = tested h (open_tests h sync loss out_of_memory) (λ _. succeeding what.Nothing (opened h sync loss))

-- Submit.

-- The lowest open write that shares a block with the range, or 0 if the range covers the block that a resync has under
-- way.
abbrev pub conflict : PrimaryHistory → Write → Option ℕ
conflict h write =
    if list_any (λ entry. elim entry.1 as (λ _. Bool) [ ResyncItem block contents ↦ covers write block | _ ↦ false ])
    (elim (is_established (primary_connection h)) [ true ↦ under_way (primary_connection h) | false ↦ [] ])
    then Some 0 else slice_get (map (λ accepted. accepted.write.number) (filter (λ accepted. overlap accepted.write write) (open_writes h))) 0

-- the activity log has no slot for the extent: no unreleased write lies in it, and as many others have one as there are
-- slots
abbrev pub activity_is_full : PrimaryHistory → ℕ → Bool
activity_is_full h extent =
    not (list_any (λ active. active == extent) (active_extents h)) && nat_le h.settings.slots (length (active_extents h))

-- the write that a submission asks for, with the next number
abbrev pub submission : PrimaryHistory → ℕ → List (List ℕ) → Write
submission h first contents = record { number = suc (length h.writes); first = first; contents = contents }

-- the tests of a submission, in order
abbrev pub submit_tests : PrimaryHistory → ℕ → List (List ℕ) → Bool → List Test
submit_tests h first contents out_of_memory =
    let c = primary_connection h in
    let met = conflict h (submission h first contents) in
    (not (is_range h.settings first (length contents)), BadRange) ∷ (not (is_established c) && (h.tuple.bitmap == 0), NotConnected)
    ∷ (nat_le 1048576 (length h.writes), JournalFull) ∷ (nat_le h.settings.backlog (length (unreleased h)), LogFull)
    ∷ (is_some met, Conflict (unwrap_or met 0)) ∷ (activity_is_full h (extent_of first), ActivityFull)
    ∷ (is_established c && nat_le 4294967288 (length c.stream), StreamFull) ∷ (out_of_memory, NoMemory) ∷ []

-- Accepts the write: on an established connection it takes the stream's next place; without one its range is marked.
abbrev pub submitted_with : (has_stream : Bool) → PrimaryHistory → ℕ → List (List ℕ) → PrimaryHistory
submitted_with has_stream h first contents =
    let write = submission h first contents in
    let c = primary_connection h in
    elim has_stream [
      | true ↦ appending (WriteItem write)
          (record h {
            writes = h.writes ++ record {
              write = write;
              journal_length = length h.journal;
              home = Some (record { index = last_index h.connections; place = length c.stream });
              outcome = Waiting;
            } ∷ [];
          })
      | false ↦ record h {
        writes = h.writes ++ record { write = write; journal_length = length h.journal; home = None; outcome = Waiting } ∷ [];
        marks = marking write h.marks;
      }
    ]

-- the write is accepted
abbrev pub submitted : PrimaryHistory → ℕ → List (List ℕ) → PrimaryHistory
submitted h first contents = submitted_with (is_established (primary_connection h)) h first contents

-- the primary accepts a write
abbrev pub submit : ℕ → List (List ℕ) → Bool → PrimaryHistory → Reply × PrimaryHistory
submit first contents out_of_memory h = tested h (submit_tests h first contents out_of_memory)
    (λ _. succeeding (what.Write (suc (length h.writes))) (submitted h first contents))

-- The local disk.

-- the local disk has neither written nor failed the write of this number
abbrev pub is_unfinished : PrimaryHistory → ℕ → Bool
is_unfinished h number = list_any (λ accepted. (accepted.write.number == number) && is_waiting accepted.outcome) h.writes

-- records what the disk did with the write of this number
abbrev pub set_outcome : ℕ → LocalOutcome → Accepted → Accepted
set_outcome number outcome accepted = if accepted.write.number == number then record accepted { outcome = outcome } else accepted

-- records what the disk did with that write in the history
abbrev pub with_outcome : ℕ → LocalOutcome → PrimaryHistory → PrimaryHistory
with_outcome number outcome h = record h { writes = map (set_outcome number outcome) h.writes }

-- The local disk finishes a write, which may release it.
abbrev pub local_done : ℕ → PrimaryHistory → Reply × PrimaryHistory
local_done number h = tested h ((not (is_unfinished h number), UnknownJob) ∷ []) (λ _. succeeding what.Nothing (releasing h (with_outcome number OnDisk h)))

-- the accepted write of a number, if there is one
abbrev pub accepted_at : PrimaryHistory → ℕ → Option Accepted
accepted_at h number = find (λ accepted. accepted.write.number == number) h.writes

-- A fault of a write: these of its offsets reached the local disk, and its range is marked.
abbrev pub faulted_by : Option Accepted → ℕ → List ℕ → PrimaryHistory → PrimaryHistory
faulted_by write number offsets h = elim write [
  | None ↦ h
  | Some accepted ↦ with_outcome number (Failed (within (length accepted.write.contents) offsets)) (record h { marks = marking accepted.write h.marks })
]

-- a fault of the write of this number
abbrev pub faulted : ℕ → List ℕ → PrimaryHistory → PrimaryHistory
faulted number offsets h = faulted_by (accepted_at h number) number offsets h

-- the local disk fails a write after these of its offsets were written
abbrev pub local_fault : ℕ → List ℕ → PrimaryHistory → Reply × PrimaryHistory
local_fault number offsets h = tested h ((not (is_unfinished h number), UnknownJob) ∷ []) (λ _. succeeding what.Nothing (faulted number offsets h))

-- Send. `room` says whether the link has room.

-- the tests of a send, in order
abbrev pub send_tests : PrimaryHistory → Bool → Bool → List Test
send_tests h room out_of_memory =
    let c = primary_connection h in
    (c.closed, NotConnected) ∷ (nat_le (length (frames_due h.settings c)) c.pushed, NothingThere) ∷ (out_of_memory, NoMemory) ∷ (not room, LinkFull) ∷ []

-- the report of the next frame: its command, and its place if it is an item of the stream
abbrev pub sending : PrimaryHistory → What
sending h =
    let c = primary_connection h in
    elim (slice_get (frames_due h.settings c) c.pushed) [
      | None ↦ what.Nothing
      | Some packet ↦ what.Frame (command_of packet) (if nat_lt c.pushed 3 then None else Some (c.pushed - 3))
    ]

-- the primary sends its next due frame
abbrev pub send : Bool → Bool → PrimaryHistory → Reply × PrimaryHistory
send room out_of_memory h = tested h (send_tests h room out_of_memory)
    (λ _. succeeding (sending h) (with_primary_connection (λ c. record c { pushed = suc c.pushed }) h))

-- Resync.

-- the tests of `resync_next`, in order
abbrev pub resync_tests : PrimaryHistory → Bool → List Test
resync_tests h out_of_memory =
    let c = primary_connection h in
    (c.closed, NotConnected) ∷ (not (resync_runs c) || (nat_lt 0 (length (under_way c)) || is_none (free_block h)), NothingToDo)
    ∷ (nat_le 4294967288 (length c.stream), StreamFull) ∷ (out_of_memory, NoMemory) ∷ []

-- what a read of a block gave: these bytes, or what the local disk has there now
abbrev pub given : Option (List ℕ) → PrimaryHistory → ℕ → List ℕ
given read h block = unwrap_or read (unwrap_or (local_map h block) [])

-- puts a block into the stream as the read gave it
abbrev pub copying : Option (List ℕ) → ℕ → PrimaryHistory → PrimaryHistory
copying read block h = record (appending (ResyncItem block (given read h block)) h) { faithful = is_none read && h.faithful }

-- Reads the lowest marked block that no open write covers, and appends what the read gave in the same step.
abbrev pub resync_next : Option (List ℕ) → Bool → PrimaryHistory → Reply × PrimaryHistory
resync_next read out_of_memory h = tested h (resync_tests h out_of_memory) (λ _. elim (free_block h) [
  | None ↦ (reply.Refused NothingToDo, h)
  | Some block ↦ succeeding (what.Block (record { 0 = block }) (length (primary_connection h).stream))
      (copying read block h)
])

-- the local disk fails the read, and nothing changes
abbrev pub resync_fault : Bool → PrimaryHistory → Reply × PrimaryHistory
resync_fault out_of_memory h = tested h (resync_tests h out_of_memory) (λ _. (reply.Refused ReadFault, h))

-- Close: marks the unreleased writes, changes the tuple by `lost` if the stream had begun, and closes the connection.
abbrev pub closing : PrimaryHistory → PrimaryHistory
closing h =
    let c = primary_connection h in
    with_primary_connection (λ c. record c { closed = true }) (record h {
      marks = marking_unreleased h;
      tuple = if c.begun then lost c.loss h.tuple
          else h.tuple;
    })

-- The primary closes its end. The reply says how many writes that completed.
abbrev pub close_primary : PrimaryHistory → Reply × PrimaryHistory
close_primary h = tested h (((primary_connection h).closed, NotConnected) ∷ [])
    (λ _. let after = follows (closing h) in (reply.Closed (length after.completed), after.history))

-- Receipts: a completed write's entry, once; 8 for a failed write, once; 9 while it is open.
abbrev pub take_completed_tests : PrimaryHistory → ℕ → List Test
take_completed_tests h number =
    (is_none (accepted_at h number) || list_any (λ taken. taken == number) h.receipts, UnknownJob)
    ∷ (list_any (λ accepted. (accepted.write.number == number) && is_open h accepted) h.writes, NotCompleted) ∷ []

-- records that the receipt of this number is taken
abbrev pub receipted : ℕ → PrimaryHistory → PrimaryHistory
receipted number h = record h { receipts = h.receipts ++ number ∷ [] }

-- the caller takes the receipt of a write
abbrev pub take_completed : ℕ → PrimaryHistory → Result Completion Refusal × PrimaryHistory
take_completed number h = elim (first_refusal (take_completed_tests h number)) [
  | Some refusal ↦ (Err refusal, h)
  | None ↦ elim (find (λ entry. entry.write.number == number) h.journal) [
    | None ↦ (Err LocalFault, receipted number h)
    | Some entry ↦ (
      Ok entry,
      receipted number h,
    )
  ]
]
