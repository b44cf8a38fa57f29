-- The state of a primary in plain values.
use Rattle.std.specs.Prelude.{ℕ, ◌-◌, ◌==◌, Bool, true, false, ◌&&◌, not, if◌then◌else◌, List, [], ◌∷◌, ◌++◌, length, map, Option, Some, None, is_some, is_none}
use Rattle.std.specs.Prelude.{option_map, slice_get, Result, Err}
use Rattle.std.specs.List.{list_any}
use Rattle.blocks.specs.Positions.{StreamPosition}
use Rattle.blocks.specs.declared.tuple.Tuple.{Tuple}
use Rattle.blocks.specs.declared.settings.Settings.{Settings}
use Rattle.blocks.specs.declared.refusal.Refusal.{Refusal}
use Rattle.blocks.specs.declared.outcome.Done.{Done}
use Rattle.blocks.specs.declared.outcome.What.{What}
use Rattle.blocks.specs.Identifiers.{sync_end}
use Rattle.blocks.specs.Ranges.{below}
use Rattle.model.specs.Contents.{extent_of}
use Rattle.model.specs.Stream.{StreamItem, BarrierItem, UuidsItem}
use Rattle.model.specs.Refusals.{Test, first_refusal}
use Rattle.transferlog.specs.Log as log
use Rattle.transferlog.specs.Log.{LogState, empty_log, clears}
use Rattle.transferlog.specs.declared.report.Completed as report
use Rattle.transferlog.specs.declared.report.Released.{Released}
use Rattle.overlap.specs.Holdings as overlap
use Rattle.overlap.specs.Holdings.{Holding}
use Rattle.activitylog.specs.Activity.{ActivityState, ended}
use Rattle.bitmap.specs.Marks.{marked}

-- What became of an accepted write: it is open, the local disk failed it, or it was completed, over the link or without
-- it.
pub data Fate : Type 0 where
  Open : Fate
  Failed : Fate
  Completed : (linked : Bool) (home : Option StreamPosition) → Fate

-- An accepted write as its caller asks for it: its range, what became of it, and whether its receipt was taken.
pub record JournalEntry : Type 0 where
  pub first : ℕ
  pub count : ℕ
  pub fate : Fate
  pub taken : Bool

-- the block that a resync has under way, with its place in the stream and its epoch
pub record UnderWay : Type 0 where
  pub block : ℕ
  pub place : ℕ
  pub epoch : ℕ

-- An open end: its two words, the tuple that its hello names, how many frames of the peer's hello were taken and of its
-- own pushed (3 at most), the items of its stream that were not pushed, whether a resync is running, and the block that
-- it has under way.
pub record EndState : Type 0 where
  pub sync : ℕ
  pub loss : ℕ
  pub hello : Tuple
  pub hello_received : ℕ
  pub hello_sent : ℕ
  pub unsent : List StreamItem
  pub resync : Bool
  pub under_way : Option UnderWay

-- A primary: its identifiers and the peer's as last seen, how many connections it opened, the transfer log with the
-- epochs of the stream, all accepted writes by number, the marks, the intervals of open writes and of the block under
-- way (number 0), the activity log, and its end if that is open. The stream has begun if the log has a connection.
pub record PrimaryState : Type 0 where
  pub settings : Settings
  pub tuple : Tuple
  pub peer : Option Tuple
  pub connections : ℕ
  pub log : LogState
  pub entries : List JournalEntry
  pub marks : List Bool
  pub held : List Holding
  pub activity : ActivityState
  pub end : Option EndState

-- a primary that was never opened, with these marks
abbrev pub fresh : Settings → Tuple → List Bool → PrimaryState
fresh settings tuple marks = record {
  settings = settings;
  tuple = tuple;
  peer = None;
  connections = 0;
  log = empty_log settings.protocol settings.blocks settings.max_epoch settings.backlog;
  entries = [];
  marks = marks;
  held = [];
  activity = record { slots = settings.slots; active = [] };
  end = None;
}

-- A step that its tests refuse leaves the state as it is; otherwise `done` is its outcome.
abbrev pub tested : {R : Type 0} → PrimaryState → List Test → (Unit {0} → Result R Refusal × PrimaryState) → Result R Refusal × PrimaryState
tested s tests done = elim (first_refusal tests) [ Some refusal ↦ (Err refusal, s) | None ↦ done tt ]

-- the connection is established
abbrev pub is_established : PrimaryState → Bool
is_established s = is_some s.log.connection

-- changes the end, if it is open
abbrev pub with_end : (EndState → EndState) → PrimaryState → PrimaryState
with_end f s = record s { end = option_map f s.end }

-- appends items to the stream
abbrev pub appending : List StreamItem → PrimaryState → PrimaryState
appending items s = with_end (λ e. record e { unsent = e.unsent ++ items }) s

-- What follows an effect in the same step.

-- changes the entry of one number, counted from 1
abbrev pub with_entry : ℕ → (JournalEntry → JournalEntry) → List JournalEntry → List JournalEntry
with_entry number f [] = []
with_entry number f (entry ∷ entries) = if number == 1 then f entry ∷ entries else entry ∷ with_entry (number - 1) f entries

-- records the completed writes in their entries
abbrev pub entering : List report.Completed → List JournalEntry → List JournalEntry
entering [] entries = entries
entering (c ∷ completed) entries = entering completed (with_entry c.number (λ entry. record entry { fate = Completed c.linked c.home }) entries)

-- removes the intervals of completed writes
abbrev pub freeing : List report.Completed → List Holding → List Holding
freeing [] held = held
freeing (c ∷ completed) held = freeing completed (overlap.without c.number held)

-- takes released writes out of the activity log
abbrev pub leaving : List Released → ActivityState → ActivityState
leaving [] activity = activity
leaving (r ∷ released) activity = leaving released (ended (extent_of r.first) activity)

-- the marks without those that released writes clear
abbrev pub unmarking : List Released → List ℕ → List Bool → List Bool
unmarking released last_writes marks = map (λ block. marked marks block && not (list_any (λ r. clears r block last_writes) released)) (below (length marks))

-- Applies what the last call of the log reported: completions go into the entries and free their intervals, and
-- releases leave the activity log and clear marks.
abbrev pub reporting : PrimaryState → PrimaryState
reporting s = record s {
  entries = entering s.log.completed s.entries;
  held = freeing s.log.completed s.held;
  activity = leaving s.log.released s.activity;
  marks = unmarking s.log.released s.log.last_writes s.marks;
}

-- the barrier that a step appended, as an item
abbrev pub barrier_item : Option ℕ → List StreamItem
barrier_item None = []
barrier_item (Some number) = BarrierItem number ∷ []

-- A running resync is over: no block is marked, and none is under way.
abbrev pub is_over : PrimaryState → Bool
is_over s = elim s.end [ None ↦ false | Some e ↦ (e.resync && is_none e.under_way) && not (list_any (λ mark. mark) s.marks) ]

-- ends a resync at its source: changes the tuple by `sync_end`, and appends it to the stream as UUIDS
abbrev pub ending : PrimaryState → PrimaryState
ending s =
    let tuple = sync_end s.tuple in
    with_end (λ e. record e { resync = false; unsent = e.unsent ++ UuidsItem tuple ∷ [] }) (record s { tuple = tuple; log = (log.uuids_placed s.log).1 })

-- A step's report: the first write that it completed, the barrier, and whether a resync ended.
abbrev pub done_of : What → Option ℕ → Bool → LogState → Done
done_of what barrier synced l = record { what = what; completed = option_map (λ c. c.number) (slice_get l.completed 0); barrier = barrier; synced = synced }

-- What follows a step of the log that gave this barrier: the journal, then the barrier, then the end of the resync;
-- with the step's report.
abbrev pub following : What → Option ℕ → PrimaryState → Done × PrimaryState
following what barrier s =
    let parted = appending (barrier_item barrier) (reporting s) in
    if is_over parted then (done_of what barrier true s.log, ending parted) else (done_of what barrier false s.log, parted)
