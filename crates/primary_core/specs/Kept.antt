-- Invariants of a primary's state, whatever steps it made.
use Rattle.std.specs.Prelude.{ℕ, ◌≡◌, ◌+◌, ◌*◌, ◌<◌, ◌≤◌, nat_lt, Bool, true, ◌&&◌, ◌||◌, not, if◌then◌else◌, List, length, Option, Some, None}
use Rattle.std.specs.List.{AllByRecursion}
use Rattle.blocks.specs.declared.settings.Settings.{Settings}
use Rattle.blocks.specs.SettingsRange.{IsInRange}
use Rattle.epochs.specs.Epochs.{EpochsState}
use Rattle.bitmap.specs.Marks.{marked}
use Rattle.transferlog.specs.Log.{LogState, clears}
use Rattle.transferlog.specs.Ring.{Each}
use Rattle.transferlog.specs.Writes.{LogWrite}
use Rattle.transferlog.specs.declared.report.Completed.{Completed}
use Rattle.transferlog.specs.declared.report.Released.{Released}
use Rattle.overlap.specs.Holdings.{Holding}
use Rattle.activitylog.specs.Activity.{Active}
use Rattle.primary_protocol.specs.Core.{EndState, PrimaryState, is_established}

-- a write of a device of `blocks` blocks, with the bytes of its blocks
pub record IsInside (blocks : ℕ) (w : LogWrite) : Type 0 where
  pub numbered : 0 < w.number
  pub inside : w.first + w.count ≤ blocks
  pub whole : length w.contents ≡ 4096 * w.count

-- the interval is that of an accepted write
pub record IsWriter (accepted : ℕ) (h : Holding) : Type 0 where
  pub numbered : 0 < h.number
  pub known : h.number ≤ accepted

-- an extent has no more unreleased writes than were accepted
abbrev pub IsCounted : ℕ → Active → Type 0
IsCounted accepted a = a.writes ≤ accepted

-- whether the last epoch has an item, so that a barrier will end it
abbrev pub is_going_on : EpochsState → Bool
is_going_on e = nat_lt 0 e.size || e.resync

-- how many barriers the last epoch may still need
abbrev pub barriers_due : EpochsState → ℕ
barriers_due e = if is_going_on e then 1 else 0

-- How many UUIDS and SYNC_UUID may come to the stream unasked: the UUIDS of a running resync, and both before the
-- stream begins.
abbrev pub identifiers_due : EndState → LogState → ℕ
identifiers_due e l = elim l.connection [ None ↦ 2 | Some connection ↦ if e.resync then 1 else 0 ]

-- how many barriers a step appended
abbrev pub appended : Option ℕ → ℕ
appended None = 0
appended (Some number) = 1

-- how many items may come to the stream unasked, with the barrier that a step appended; none if no end is open
abbrev pub owing : Option ℕ → Option EndState → LogState → ℕ
owing barrier None l = 0
owing barrier (Some e) l = appended barrier + (barriers_due l.epochs + identifiers_due e l)

-- for how many items that come unasked a stream must keep places; if no end is open, for those before it begins
abbrev pub places_owing : Option EndState → LogState → ℕ
places_owing None l = barriers_due l.epochs + (elim l.connection [ None ↦ 2 | Some connection ↦ 0 ])
places_owing (Some e) l = barriers_due l.epochs + identifiers_due e l

-- a write that was completed has a number
abbrev pub IsNumbered : Completed → Type 0
IsNumbered c = 0 < c.number

-- a write that was released lies in the device
abbrev pub LiesInside : ℕ → Released → Type 0
LiesInside blocks r = r.first + r.count ≤ blocks

-- The log fits the device and the settings' backlog, and each write in it lies in the device, and so did those that it
-- reports.
pub record IsSoundLog (settings : Settings) (l : LogState) : Type 0 where
  pub backlog : l.backlog ≡ settings.backlog
  pub last_writes : length l.last_writes ≡ settings.blocks
  pub writes : Each (IsInside settings.blocks) l.writes
  pub completed : AllByRecursion IsNumbered l.completed
  pub released : AllByRecursion (LiesInside settings.blocks) l.released

-- The settings are in their ranges; the log is sound, and the marks are of the device; no extent counts too many
-- writes; a resync runs only on an established connection; and the stream has places for what may come to it unasked.
pub record IsSound (s : PrimaryState) : Type 0 where
  pub in_range : IsInRange s.settings
  pub log : IsSoundLog s.settings s.log
  pub marks : length s.marks ≡ s.settings.blocks
  pub counted : AllByRecursion (IsCounted s.log.accepted) s.activity.active
  pub standing : (e : EndState) → s.end ≡ Some e → e.resync ≡ true → is_established s ≡ true
  pub places : s.log.epochs.places + places_owing s.end s.log ≤ 4294967290

-- the marks after a release cleared its blocks below a number
pub record Cleared (r : Released) (last_writes : List ℕ) (old new : List Bool) (upto : ℕ) : Type 0 where
  pub same : length new ≡ length old
  pub each : (block : ℕ) → marked new block ≡ (marked old block && not (nat_lt block upto && clears r block last_writes))
