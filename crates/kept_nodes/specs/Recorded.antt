-- The marks that a metadata file has, and what a call keeps of those that count. Nothing is proved here.
use Rattle.std.specs.Prelude.{ℕ, ◌≡◌, ◌≢◌, ◌<◌, Bool, true, List, length, IsTrue}
use Rattle.bitmap.specs.Marks.{marked}
use Rattle.kept_nodes.specs.Left.{EntriesStand, IsKnown, Outcomes}
use Rattle.metadata.specs.Says.{marked_in}
use Rattle.metadata.specs.State.{MetadataState}
use Rattle.metadata.specs.Steps.{SameEntries}
use Rattle.model.specs.Contents.{extent_of}

-- each block of this extent is marked in the file just as it is here
abbrev pub HasMarksOf : ℕ → List Bool → List ℕ → Type 0
HasMarksOf extent marks file = (block : ℕ) → block < length marks → extent_of block ≡ extent → marked_in file block ≡ marked marks block

-- each block of the first extents is marked in the file just as it is here
abbrev pub HasMarks : ℕ → List Bool → List ℕ → Type 0
HasMarks extents marks file = (block : ℕ) → block < length marks → extent_of block < extents → marked_in file block ≡ marked marks block

-- the same extents are entered, and only marks of this extent's blocks may have changed
pub record OnlyMarksOf (extent : ℕ) (old new : List ℕ) : Type 0 where
  pub entries : SameEntries old new
  pub others : (block : ℕ) → extent_of block ≢ extent → marked_in new block ≡ marked_in old block

-- Whatever a stop leaves now comes by a step from what it might have left before.
abbrev pub ComesBy : {F : Type 0} → (List ℕ → List ℕ → Type 0) → (F → List ℕ) → (F → List ℕ → Type 0) → MetadataState F → MetadataState F → Type 0
ComesBy step seen may_leave old new = (c : List ℕ) → Outcomes seen may_leave new c → (d : List ℕ) × Outcomes seen may_leave old d × step d c

-- Whatever a stop leaves still has each block that is marked here, if it had it, and what memory says of the entries.
pub record KeepsMarked {F : Type 0} (marks : List Bool) (seen : F → List ℕ) (may_leave : F → List ℕ → Type 0) (faithful : F → Bool)
    (old new : MetadataState F) : Type 0 where
  pub header : new.header ≡ old.header
  pub falls : IsTrue (faithful new.file) → IsTrue (faithful old.file)
  pub entries : IsTrue (faithful new.file) → EntriesStand (Outcomes seen may_leave old) old.entries → EntriesStand (Outcomes seen may_leave new) new.entries
  pub known : IsTrue (faithful new.file) → EntriesStand (Outcomes seen may_leave old) old.entries
      → (block : ℕ) → marked marks block ≡ true → IsKnown (Outcomes seen may_leave old) block → IsKnown (Outcomes seen may_leave new) block
