-- Nodes with their metadata, and what it says of them. Nothing is proved here.
use Rattle.std.specs.Prelude.{ℕ, ◌≡◌, ◌<◌, Bool, true, false, not, ◌&&◌, List, Option, Some, None, IsTrue, IfSome}
use Rattle.kept_nodes.specs.Left.{Outcomes, IsKnown, EntriesStand}
use Rattle.metadata.specs.State.{MetadataState}
use Rattle.model.specs.Headline.{is_covered}
use Rattle.model.specs.Primary.{PrimaryHistory}
use Rattle.model.specs.Secondary.{SecondaryHistory}
use Rattle.model.specs.Stopped.{stopped_tuple}
use Rattle.model.specs.Theorems.{Opening}
use Rattle.primary.specs.State.{PrimaryView}
use Rattle.secondary.specs.State.{SecondaryView}
use Rattle.session_nodes.specs.Primaries.{PrimaryHas, PrimaryBegan}
use Rattle.session_nodes.specs.Secondaries.{SecondaryHas, SecondaryBegan}

-- A primary, its metadata if it has some, which extents are prepared to leave (a byte for each), and whether a full copy was
-- decided and not entered, since the file failed.
pub record KeptPrimaryState (F : Type 0) : Type 0 where
  pub node : PrimaryView
  pub metadata : Option (MetadataState F)
  pub prepared : List ℕ
  pub owes_all : Bool

-- A secondary, its metadata if it has some, and whether its disk was not consistent as it was opened, and no resync has begun since.
pub record KeptSecondaryState (F : Type 0) : Type 0 where
  pub node : SecondaryView
  pub metadata : Option (MetadataState F)
  pub is_doubted : Bool

-- whether a call of the metadata's file has failed, so that it is not used again
abbrev pub is_broken : {F : Type 0} → Option (MetadataState F) → Bool
is_broken None = false
is_broken (Some m) = m.is_broken

-- The metadata has each block of a primary's device that is marked or under an unreleased write, whether a call of the file has failed
-- or not; but for a full copy whose extents could not be entered: nothing of it was sent.
pub record CoversPrimary {F : Type 0} (faithful : Bool) (outcomes : List ℕ → Type 0) (m : MetadataState F) (owes_all : Bool) (h : PrimaryHistory) : Type 0 where
  pub blocks : m.header.blocks ≡ h.settings.blocks
  pub covered : IsTrue faithful → owes_all ≡ false → (block : ℕ) → block < h.settings.blocks → is_covered h block ≡ true → IsKnown outcomes block
  pub entries : IsTrue faithful → EntriesStand outcomes m.entries
  pub owes : owes_all ≡ true → m.is_broken ≡ true

-- The metadata says what a stop of this primary has to leave: those blocks, and as long as no call of the file has failed, the
-- identifiers that a close would leave.
pub record SaysPrimary {F : Type 0} (faithful : Bool) (outcomes : List ℕ → Type 0) (m : MetadataState F) (owes_all : Bool) (h : PrimaryHistory) : Type 0 where
  pub covers : CoversPrimary faithful outcomes m owes_all h
  pub saved : m.is_broken ≡ false → m.identifiers.tuple ≡ stopped_tuple h

-- The metadata says what a stop of this secondary has to leave: its identifiers, and whether it is consistent.
pub record SaysSecondary {F : Type 0} (m : MetadataState F) (is_doubted : Bool) (h : SecondaryHistory) : Type 0 where
  pub blocks : m.header.blocks ≡ h.settings.blocks
  pub tuple : m.is_broken ≡ false → m.identifiers.tuple ≡ h.tuple
  pub consistent : m.is_broken ≡ false → m.identifiers.is_consistent ≡ (h.consistent && not is_doubted)

-- The primary refines a history that began so, and its metadata says what a stop of it has to leave.
pub record PrimaryIsKept {F : Type 0} (seen : F → List ℕ) (may_leave : F → List ℕ → Type 0) (faithful : F → Bool) (opening : Option Opening)
    (v : PrimaryView) (metadata : Option (MetadataState F)) (owes_all : Bool) : Type 0 where
  pub history : PrimaryHistory
  pub has : PrimaryHas v history
  pub began : PrimaryBegan opening history
  pub says : IfSome metadata (λ m. SaysPrimary (faithful m.file) (Outcomes seen may_leave m) m owes_all history)
  pub alone : metadata ≡ None → owes_all ≡ false

-- The secondary refines a history that began so, and its metadata says what a stop of it has to leave.
pub record SecondaryIsKept {F : Type 0} (opening : Option Opening) (v : SecondaryView) (metadata : Option (MetadataState F)) (is_doubted : Bool) : Type 0 where
  pub history : SecondaryHistory
  pub has : SecondaryHas v history
  pub began : SecondaryBegan opening history
  pub says : IfSome metadata (λ m. SaysSecondary m is_doubted history)
