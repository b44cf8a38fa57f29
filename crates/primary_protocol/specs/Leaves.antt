-- The relation between a primary's state and the model histories that leave it.
use Rattle.std.specs.Prelude.{ℕ, zero, suc, ◌+◌, ◌-◌, ◌≡◌, ◌<◌, ◌≤◌, nat_lt, nat_le, ◌==◌, Bool, true, false, not, if◌then◌else◌, List, [], ◌∷◌, ◌++◌, length}
use Rattle.std.specs.Prelude.{take, drop, map, filter, find, min, Option, Some, None, slice_get}
use Rattle.std.specs.List.{list_any, concat}
use Rattle.blocks.specs.Ranges.{below}
use Rattle.model.specs.Contents.{covers, extent_of}
use Rattle.model.specs.Stream.{StreamItem, WriteItem, ResyncItem, first_of, barriers_in, epoch_of, last_epoch, items_of_epoch, epoch_size}
use Rattle.model.specs.Primary as history
use Rattle.model.specs.Primary.{LocalOutcome, Accepted, Completion, CompletionKind, Linked, Alone, PrimaryConnection, PrimaryHistory, primary_connection}
use Rattle.model.specs.Primary.{last_index, is_established, items_sent}
use Rattle.model.specs.Primary.{barrier_acknowledged, is_answered_by, is_answered, is_alone, is_failed, is_completed, completes, unreleased, open_writes}
use Rattle.model.specs.Primary.{is_resync, was_received, was_written, was_resynced, resync_runs, under_way}
use Rattle.transferlog.specs.Log.{LogState}
use Rattle.transferlog.specs.Writes.{LogWrite}
use Rattle.transferlog.specs.declared.local.Local.{Local}
use Rattle.transferlog.specs.declared.local.Local.TheVariants as local
use Rattle.epochs.specs.Epochs.{empty}
use Rattle.overlap.specs.Holdings.{Holding, holding}
use Rattle.activitylog.specs.Activity.{Active, ActivityState, writes_of}
use Rattle.primary_protocol.specs.Core.{Fate, Open, Failed, Completed, JournalEntry, UnderWay, EndState, PrimaryState}

-- Entries.

-- completed over the link
abbrev pub is_linked : CompletionKind → Bool
is_linked Linked = true
is_linked Alone = false

-- the fate of a write by its entry in the journal, if it has one
abbrev pub fate_in : Option Completion → Fate
fate_in None = Open
fate_in (Some entry) = Completed (is_linked entry.kind) entry.home

-- what became of a write: failed, or what the journal says
abbrev pub fate_of : PrimaryHistory → Accepted → Fate
fate_of h accepted = elim (is_failed accepted.outcome) [
  | true ↦ Failed
  | false ↦ fate_in (find (λ entry. entry.write.number == accepted.write.number) h.journal)
]

-- an accepted write, as its caller asks for it
abbrev pub entry_of : PrimaryHistory → Accepted → JournalEntry
entry_of h accepted = record {
  first = accepted.write.first;
  count = length accepted.write.contents;
  fate = fate_of h accepted;
  taken = list_any (λ number. number == accepted.write.number) h.receipts;
}

-- the entries are those of the accepted writes, and receipts were taken only of these
pub record LeavesEntries (s : PrimaryState) (h : PrimaryHistory) : Type 0 where
  pub entries : s.entries ≡ map (entry_of h) h.writes
  pub receipts : (i number : ℕ) → slice_get h.receipts i ≡ Some number → number ≤ length h.writes

-- The transfer log.

-- what the local disk did, as the log has it
abbrev pub local_of : LocalOutcome → Local
local_of history.Waiting = local.Waiting
local_of history.OnDisk = local.OnDisk
local_of (history.Failed offsets) = local.Failed

-- the write's frame was pushed
abbrev pub is_sent : PrimaryHistory → Accepted → Bool
is_sent h accepted = elim accepted.home [
  | None ↦ false
  | Some home ↦ elim (slice_get h.connections home.index) [ None ↦ false | Some c ↦ nat_lt home.place (items_sent c) ]
]

-- an accepted write, as the log has it
abbrev pub logged_of : PrimaryHistory → Accepted → LogWrite
logged_of h accepted = record {
  number = accepted.write.number;
  first = accepted.write.first;
  count = length accepted.write.contents;
  contents = concat accepted.write.contents;
  blocks = accepted.write.contents;
  home = accepted.home;
  linked = not (is_alone h accepted);
  sent = is_sent h accepted;
  answered = is_answered h accepted;
  local = local_of accepted.outcome;
}

-- the index of the established connection
abbrev pub standing : PrimaryHistory → Option ℕ
standing h = if is_established (primary_connection h) then Some (last_index h.connections) else None

-- the number of the last of these writes that covers the block, or else the given number
abbrev pub latest_in : List Accepted → ℕ → ℕ → ℕ
latest_in [] block number = number
latest_in (accepted ∷ writes) block number = latest_in writes block (if covers accepted.write block then accepted.write.number else number)

-- the `count` numbers after `n`
abbrev pub numbers_after : ℕ → ℕ → List ℕ
numbers_after n zero = []
numbers_after n (suc count) = suc n ∷ numbers_after (suc n) count

-- the sum of these numbers
abbrev pub total : List ℕ → ℕ
total [] = 0
total (n ∷ ns) = n + total ns

-- The log's epochs are those of the established connection's stream; the first `acked` are acknowledged. The writes up
-- to the end of an epoch are those up to the confirmed number, and as many after it as the sizes of the epochs since.
pub record LeavesEpochs (l : LogState) (c : PrimaryConnection) : Type 0 where
  pub acked : ℕ
  pub acknowledged : (epoch : ℕ) → 0 < epoch → barrier_acknowledged c epoch ≡ nat_le epoch acked
  pub within : acked ≤ barriers_in c.stream
  pub places : l.epochs.places ≡ length c.stream
  pub ended : l.epochs.ended ≡ barriers_in c.stream
  pub sizes : l.epochs.sizes ≡ map (epoch_size c.stream) (numbers_after acked (barriers_in c.stream - acked))
  pub size : l.epochs.size ≡ epoch_size c.stream (last_epoch c.stream)
  pub resync : l.epochs.resync ≡ list_any (λ entry. is_resync entry.1) (items_of_epoch c.stream (last_epoch c.stream))
  pub upto : (k place : ℕ) (write : _) → k ≤ length l.epochs.sizes → slice_get c.stream place ≡ Some (WriteItem write)
      → nat_le write.number (l.acknowledged_through + total (take k l.epochs.sizes)) ≡ nat_le (epoch_of c.stream place) (acked + k)
  pub newest : l.acknowledged_through + total l.epochs.sizes + l.epochs.size ≡ l.accepted
  pub first : 0 < l.epochs.size → l.epochs.first ≡ suc (l.acknowledged_through + total l.epochs.sizes)
  pub answered : (place : ℕ) (write : _) → slice_get c.stream place ≡ Some (WriteItem write) → epoch_of c.stream place ≤ acked
      → is_answered_by l.protocol c place (WriteItem write) ≡ true

-- The log's writes are what the history leaves. Its last report is left open.
pub record LeavesLog (l : LogState) (h : PrimaryHistory) : Type 0 where
  pub protocol : l.protocol ≡ h.settings.protocol
  pub backlog : l.backlog ≡ h.settings.backlog
  pub accepted : l.accepted ≡ length h.writes
  pub connection : l.connection ≡ standing h
  pub writes : l.writes ≡ map (logged_of h) (unreleased h)
  pub last_writes : l.last_writes ≡ map (λ block. latest_in h.writes block 0) (below h.settings.blocks)

-- The log's epochs are those of the established connection's stream, in which each write after the confirmed ones has
-- its place; without a connection they are empty.
pub record LeavesStream (l : LogState) (h : PrimaryHistory) : Type 0 where
  pub max_epoch : l.epochs.max_epoch ≡ h.settings.max_epoch
  pub on : is_established (primary_connection h) ≡ true → LeavesEpochs l (primary_connection h)
  pub here : is_established (primary_connection h) ≡ true → (i : ℕ) (accepted : Accepted) → slice_get h.writes i ≡ Some accepted
      → l.acknowledged_through < accepted.write.number
      → (place : ℕ) × (accepted.home ≡ Some (record { index = last_index h.connections; place = place }))
  pub off : is_established (primary_connection h) ≡ false → l.epochs ≡ empty h.settings.max_epoch

-- Intervals and active extents.

-- the interval of a resync block, under number 0
abbrev pub holding_item : ℕ × StreamItem → Holding
holding_item entry = holding 0 (first_of entry.1) 1

-- the interval of an open write, under its number
abbrev pub holding_write : Accepted → Holding
holding_write accepted = holding accepted.write.number accepted.write.first (length accepted.write.contents)

-- the intervals of the block under way and of the open writes
abbrev pub held_of : PrimaryHistory → List Holding
held_of h = map holding_item (if is_established (primary_connection h) then under_way (primary_connection h) else []) ++ map holding_write (open_writes h)

-- each extent is active at most once
abbrev pub AreOnce : List Active → Type 0
AreOnce [] = Unit {0}
AreOnce (a ∷ active) = (list_any (λ b. a.extent == b.extent) active ≡ false) × AreOnce active

-- how many of these writes lie in an extent
abbrev pub writes_in : ℕ → List Accepted → ℕ
writes_in extent writes = length (filter (λ accepted. extent == extent_of accepted.write.first) writes)

-- The activity log counts these writes by extent, has no extent twice, and has no more extents than slots.
pub record LeavesActivity (a : ActivityState) (slots : ℕ) (writes : List Accepted) : Type 0 where
  pub limit : a.slots ≡ slots
  pub counts : (extent : ℕ) → writes_of extent a.active ≡ writes_in extent writes
  pub active : (extent : ℕ) → 0 < writes_in extent writes → list_any (λ b. extent == b.extent) a.active ≡ true
  pub once : AreOnce a.active
  pub few : length a.active ≤ slots

-- The end.

-- the state's block under way is the one that the connection has under way, or both have none
abbrev pub UnderWayLeft : Option UnderWay → PrimaryConnection → Type 0
UnderWayLeft None c = under_way c ≡ []
UnderWayLeft (Some way) c = (contents : List ℕ) × (under_way c ≡ (way.place, ResyncItem way.block contents) ∷ []) × (epoch_of c.stream way.place ≡ way.epoch)

-- the open end is what the connection leaves
pub record LeavesEnd (e : EndState) (c : PrimaryConnection) : Type 0 where
  pub is_open : c.closed ≡ false
  pub plain : c.refused ≡ false
  pub sync : e.sync ≡ c.sync
  pub loss : e.loss ≡ c.loss
  pub hello : e.hello ≡ c.hello
  pub hello_received : e.hello_received ≡ min (length c.taken) 3
  pub hello_sent : e.hello_sent ≡ min c.pushed 3
  pub pushed : c.pushed - 3 ≤ length c.stream
  pub unsent : e.unsent ≡ drop (c.pushed - 3) c.stream
  pub resync : e.resync ≡ resync_runs c
  pub under_way : UnderWayLeft e.under_way c
  -- no taken frame names an item that is not in the stream yet
  pub unasked : (place : ℕ) (item : StreamItem) → length c.stream ≤ place
      → (was_received c place item ≡ false) × (was_written c place item ≡ false) × (was_resynced c place item ≡ false)
  pub unbegun : c.begun ≡ false → (epoch : ℕ) → barrier_acknowledged c epoch ≡ false

-- the end is closed as the connection is, or is the open one that the connection leaves
abbrev pub EndLeft : Option EndState → PrimaryConnection → Type 0
EndLeft None c = c.closed ≡ true
EndLeft (Some e) c = LeavesEnd e c

-- Marks.

-- for each block of the device whether it is marked
abbrev pub marks_in : ℕ → (ℕ → Bool) → List Bool
marks_in blocks marks = map marks (below blocks)

-- The journal has each write that can be completed, and no other.
abbrev pub IsQuiet : PrimaryHistory → Type 0
IsQuiet h = (i : ℕ) (accepted : Accepted) → slice_get h.writes i ≡ Some accepted → is_completed h accepted.write.number ≡ completes h accepted

-- the state is what the history leaves, but for the epochs of the stream
pub record LeavesRest (s : PrimaryState) (h : PrimaryHistory) : Type 0 where
  pub settings : s.settings ≡ h.settings
  pub tuple : s.tuple ≡ h.tuple
  pub peer : s.peer ≡ h.peer
  pub connections : s.connections ≡ length h.connections
  pub log : LeavesLog s.log h
  pub entries : LeavesEntries s h
  pub marks : s.marks ≡ marks_in h.settings.blocks h.marks
  pub held : s.held ≡ held_of h
  pub activity : LeavesActivity s.activity h.settings.slots (unreleased h)
  pub end : EndLeft s.end (primary_connection h)
  pub quiet : IsQuiet h

-- the state is what the history leaves
pub record Leaves (s : PrimaryState) (h : PrimaryHistory) : Type 0 where
  pub rest : LeavesRest s h
  pub stream : LeavesStream s.log h
