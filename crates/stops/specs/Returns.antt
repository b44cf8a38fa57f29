-- The secondary goes on as the primary, alone, and the old primary comes back. Nothing is proved here.
use Rattle.std.specs.Prelude.{ℕ, ◌≡◌, ◌<◌, nat_lt, Bool, true, false, ◌&&◌, ◌||◌, List, [], ◌∷◌}
use Rattle.blocks.specs.declared.settings.Settings.{Settings}
use Rattle.blocks.specs.declared.tuple.Tuple.{Tuple}
use Rattle.laws.specs.Reflections.{NoneBegan}
use Rattle.model.specs.Contents.{BlockMap, IsDisk}
use Rattle.model.specs.Headline.{IsGrounded, is_covered}
use Rattle.model.specs.LocalRuns.{PrimaryEvent, primary_run}
use Rattle.model.specs.Primary.{PrimaryHistory, local_map}
use Rattle.model.specs.Theorems.{Opening, IsSoundOpening, HasRanges, primary_at}
use Rattle.stops.specs.Stops.{Stopped, MayBeLeft, promoted_at, primary_of, secondary_of, done_of}

-- A primary on which no stream began has its opening disk in each block that is neither marked nor under an unreleased write.
-- (No resync copied anything there, so its history is faithful.)
abbrev pub AloneKeepsItsDisk : Type 0
AloneKeepsItsDisk =
    (q : Opening) (events : List PrimaryEvent) → HasRanges q → IsDisk q.settings.blocks q.local → NoneBegan (primary_run events (primary_at q))
    → (block : ℕ) → is_covered (primary_run events (primary_at q)) block ≡ false → local_map (primary_run events (primary_at q)) block ≡ q.local block

-- What a primary that was alone leaves at a stop: its marks have what it covers, and its disk is as its history has it elsewhere.
pub record LeavesAlone (r : PrimaryHistory) (marks : ℕ → Bool) (disk : BlockMap) : Type 0 where
  pub size : IsDisk r.settings.blocks disk
  pub covered : (block : ℕ) → block < r.settings.blocks → is_covered r block ≡ true → marks block ≡ true
  pub kept : (block : ℕ) → (nat_lt block r.settings.blocks && marks block) ≡ false → disk block ≡ local_map r block

-- The next opening with the old primary as its secondary is sound, whatever the identifiers, if its marks are those of both: what
-- the new primary has marked, and what the old one's metadata has.
abbrev pub ReturnsAreSound : Type 0
ReturnsAreSound =
    (o : Opening) (w : Stopped o) (old : ℕ → Bool) (left mirror : BlockMap) (q : Opening) (events : List PrimaryEvent) (marks : ℕ → Bool)
    (disk : BlockMap) (own other : Tuple) → IsSoundOpening o
    → (primary_of o w).settings.blocks ≡ (secondary_of o w).settings.blocks
    → MayBeLeft (primary_of o w) (secondary_of o w) (done_of o w) old left mirror → IsGrounded (primary_of o w) (secondary_of o w)
    → HasRanges q → q.settings ≡ (secondary_of o w).settings → q.local ≡ mirror → NoneBegan (primary_run events (primary_at q))
    → LeavesAlone (primary_run events (primary_at q)) marks disk → 0 < own.current
    → IsSoundOpening (promoted_at (primary_of o w) (secondary_of o w) (λ block. marks block || old block) left disk own other)

-- Several sessions alone, one after the other.

-- A session: its opening, what happens in it, and the marks and the disk that it leaves.
pub record SessionAlone : Type 0 where
  pub opening : Opening
  pub events : List PrimaryEvent
  pub marks : ℕ → Bool
  pub disk : BlockMap

-- the primary at its end
abbrev pub end_of : SessionAlone → PrimaryHistory
end_of session = primary_run session.events (primary_at session.opening)

-- It opened on this disk, with these marks or more; nobody was connected; and it leaves its marks and its disk.
pub record RanAlone (settings : Settings) (marks : ℕ → Bool) (disk : BlockMap) (session : SessionAlone) : Type 0 where
  pub ranges : HasRanges session.opening
  pub same_settings : session.opening.settings ≡ settings
  pub opened_on : session.opening.local ≡ disk
  pub opened_with : (block : ℕ) → block < settings.blocks → marks block ≡ true → session.opening.marks block ≡ true
  pub alone : NoneBegan (end_of session)
  pub left : LeavesAlone (end_of session) session.marks session.disk

-- each of them opened from what the one before left
abbrev pub AllRanAlone : Settings → (ℕ → Bool) → BlockMap → List SessionAlone → Type 0
AllRanAlone settings marks disk [] = Unit {0}
AllRanAlone settings marks disk (session ∷ rest) = RanAlone settings marks disk session × AllRanAlone settings session.marks session.disk rest

-- the marks after the last one
abbrev pub marks_after : (ℕ → Bool) → List SessionAlone → ℕ → Bool
marks_after marks [] = marks
marks_after marks (session ∷ rest) = marks_after session.marks rest

-- the disk after the last one
abbrev pub disk_after : BlockMap → List SessionAlone → BlockMap
disk_after disk [] = disk
disk_after disk (session ∷ rest) = disk_after session.disk rest

-- a secondary has no marks
abbrev pub unmarked : ℕ → Bool
unmarked block = false

-- However many sessions the new primary ran alone: the opening with the old one as its secondary is sound, whatever the
-- identifiers, if its marks are those that the last session left and those of the old primary's metadata.
abbrev pub ReturnsStaySound : Type 0
ReturnsStaySound =
    (o : Opening) (w : Stopped o) (old : ℕ → Bool) (left mirror : BlockMap) (sessions : List SessionAlone) (own other : Tuple) → IsSoundOpening o
    → (primary_of o w).settings.blocks ≡ (secondary_of o w).settings.blocks
    → MayBeLeft (primary_of o w) (secondary_of o w) (done_of o w) old left mirror → IsGrounded (primary_of o w) (secondary_of o w)
    → AllRanAlone (secondary_of o w).settings unmarked mirror sessions → 0 < own.current
    → IsSoundOpening (promoted_at (primary_of o w) (secondary_of o w) (λ block. marks_after unmarked sessions block || old block) left
    (disk_after mirror sessions) own other)
