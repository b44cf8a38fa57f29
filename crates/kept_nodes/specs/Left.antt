-- What a stop leaves of a metadata file, and what it says of blocks then. Nothing is proved here.
use Rattle.std.specs.Prelude.{ℕ, ◌≡◌, ◌⊎◌, ◌<◌, Bool, true, false, ◌||◌, List, length, Option, Some, None, IsTrue}
use Rattle.metadata.specs.Says.{entered_in, marked_in}
use Rattle.metadata.specs.State.{MetadataState, is_entered}
use Rattle.model.specs.Contents.{extent_of}

-- What a stop may leave of the metadata's file: a kill what it was told to hold, a crash what the disk may have. After a call that
-- failed, what a kill leaves is among what a crash may leave.
abbrev pub Outcomes : {F : Type 0} → (F → List ℕ) → (F → List ℕ → Type 0) → MetadataState F → List ℕ → Type 0
Outcomes seen may_leave m c = ((m.is_broken ≡ false) × (c ≡ seen m.file)) ⊎ may_leave m.file c

-- the blocks that the next session takes as marked: those that are marked, and all of an extent that is entered
abbrev pub known_in : List ℕ → ℕ → Bool
known_in file block = entered_in file (extent_of block) || marked_in file block

-- Whatever is left has the block: its extent is entered in each outcome, or it is marked in each.
abbrev pub IsKnown : (List ℕ → Type 0) → ℕ → Type 0
IsKnown outcomes block =
    ((c : List ℕ) → outcomes c → entered_in c (extent_of block) ≡ true) ⊎ ((c : List ℕ) → outcomes c → marked_in c block ≡ true)

-- what is entered in memory is entered in each outcome
abbrev pub EntriesStand : (List ℕ → Type 0) → List ℕ → Type 0
EntriesStand outcomes entries = (x : ℕ) → x < length entries → is_entered entries x ≡ true → (c : List ℕ) → outcomes c → entered_in c x ≡ true

-- both are there and went so, or neither is
abbrev pub Across : {A : Type 0} → (A → A → Type 0) → Option A → Option A → Type 0
Across step None None = Unit {0}
Across step (Some old) (Some new) = step old new
Across step None (Some new) = ⊥
Across step (Some old) None = ⊥

-- Nothing is lost that a stop would have found of the metadata: each block of the device that each outcome had, and what memory says
-- of the entries; nor is a file that is broken ever whole again.
pub record LosesNothing {F : Type 0} (seen : F → List ℕ) (may_leave : F → List ℕ → Type 0) (faithful : F → Bool) (old new : MetadataState F) : Type 0 where
  pub header : new.header ≡ old.header
  pub falls : IsTrue (faithful new.file) → IsTrue (faithful old.file)
  pub entries : IsTrue (faithful new.file) → EntriesStand (Outcomes seen may_leave old) old.entries → EntriesStand (Outcomes seen may_leave new) new.entries
  pub known : IsTrue (faithful new.file) → EntriesStand (Outcomes seen may_leave old) old.entries
      → (block : ℕ) → block < old.header.blocks → IsKnown (Outcomes seen may_leave old) block → IsKnown (Outcomes seen may_leave new) block
  pub broken : old.is_broken ≡ true → new.is_broken ≡ true
