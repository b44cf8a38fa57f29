-- The next session opens with what a stop left of both disks and of the metadata of each. Nothing is proved here.
use Rattle.std.specs.Prelude.{ℕ, ◌≡◌, ◌<◌, Bool, true, false, List, Option, Some, Ok, IsTrue, if◌then◌else◌}
use Rattle.blocks.specs.declared.tuple.Tuple.{Tuple}
use Rattle.kept_nodes.specs.Kept.{CoversPrimary, PrimaryIsKept, SaysPrimary, SaysSecondary, SecondaryIsKept}
use Rattle.kept_nodes.specs.Left.{Outcomes, known_in}
use Rattle.metadata.specs.Says.{opened_identifiers}
use Rattle.metadata.specs.State.{MetadataState, Stands}
use Rattle.metadata.specs.declared.identifiers.Identifiers.{Identifiers}
use Rattle.model.specs.Contents.{BlockMap, IsDisk}
use Rattle.model.specs.Headline.{IsGrounded}
use Rattle.model.specs.Pair.{same_block}
use Rattle.model.specs.Primary.{PrimaryHistory, local_map}
use Rattle.model.specs.Secondary.{SecondaryHistory, secondary_map}
use Rattle.model.specs.Theorems.{Opening, IsSoundOpening}
use Rattle.primary.specs.State.{PrimaryView}
use Rattle.secondary.specs.State.{SecondaryView}
use Rattle.session_nodes.specs.Primaries.{PrimaryBegan, PrimaryHas}
use Rattle.session_nodes.specs.Secondaries.{SecondaryBegan, SecondaryHas}
use Rattle.stops.specs.Stops.{IsUnparted, MayBeLeft, Stopped, known_at, left_at, primary_of, secondary_of, done_of, unknown}

-- What both disks hold after a stop. A block that the marks have may hold anything on either disk. Every other one is on the local
-- disk as the history has it, and on the peer's, if its items under way make no difference there: `after` is the secondary with
-- these done.
pub record HoldOutside (p : PrimaryHistory) (s after : SecondaryHistory) (marks : ℕ → Bool) (local peer : BlockMap) : Type 0 where
  pub local_disk : IsDisk p.settings.blocks local
  pub peer_disk : IsDisk s.settings.blocks peer
  pub here : (block : ℕ) → known_at p marks block ≡ false → local block ≡ local_map p block
  pub there : (block : ℕ) → known_at p marks block ≡ false → same_block (secondary_map s block) (secondary_map after block) ≡ true
      → peer block ≡ secondary_map s block

-- The metadata of a primary that stopped says what this stop has to leave, and whatever the stop leaves of its file opens with what is
-- saved. No call of the file has failed, and each read gave what had been written.
pub record PrimaryIsSaid {F : Type 0} (seen : F → List ℕ) (may_leave : F → List ℕ → Type 0) (faithful : F → Bool) (m : MetadataState F)
    (p : PrimaryHistory) : Type 0 where
  pub whole : m.is_broken ≡ false
  pub still : IsTrue (faithful m.file)
  pub says : SaysPrimary (faithful m.file) (Outcomes seen may_leave m) m false p
  pub stands : Stands m.header m.identifiers m.entries (seen m.file) (may_leave m.file)

-- The metadata of a secondary that stopped says what this stop has to leave, and whatever the stop leaves of its file opens with what
-- is saved. No call of the file has failed.
pub record SecondaryIsSaid {F : Type 0} (seen : F → List ℕ) (may_leave : F → List ℕ → Type 0) (m : MetadataState F) (is_doubted : Bool)
    (s : SecondaryHistory) : Type 0 where
  pub whole : m.is_broken ≡ false
  pub says : SaysSecondary m is_doubted s
  pub stands : Stands m.header m.identifiers m.entries (seen m.file) (may_leave m.file)

-- A stop of two nodes with metadata, and what it left: of the primary's file, of the secondary's, and of both disks.
pub record StopsWithFiles {F G : Type 0} (seen : F → List ℕ) (may_leave : F → List ℕ → Type 0) (faithful : F → Bool) (peer_seen : G → List ℕ)
    (peer_may_leave : G → List ℕ → Type 0) (o : Opening) (w : Stopped o) (m : MetadataState F) (n : MetadataState G) (is_doubted : Bool)
    (file peer_file : List ℕ) (local peer : BlockMap) : Type 0 where
  pub sound : IsSoundOpening o
  -- each block that a resync copied was as the local disk had it
  pub copied : IsTrue (primary_of o w).faithful
  pub primary : PrimaryIsSaid seen may_leave faithful m (primary_of o w)
  pub secondary : SecondaryIsSaid peer_seen peer_may_leave n is_doubted (secondary_of o w)
  pub left : Outcomes seen may_leave m file
  pub peer_left : Outcomes peer_seen peer_may_leave n peer_file
  pub held : HoldOutside (primary_of o w) (secondary_of o w) (done_of o w) (known_in file) local peer

-- the identifiers that the next session gives the secondary's disk: its own if it is consistent, else none
abbrev pub peer_tuple : Identifiers → Tuple
peer_tuple saved = if saved.is_consistent then saved.tuple else unknown

-- Both files open, the primary's with the identifiers `own` and the secondary's with `other`. With these, with what the primary's file
-- marks or has entered, and with what both disks hold, the next session in the same roles has a sound opening. If the last opening had
-- no bitmap identifier where both nodes had the same current one, this one has none there either.
pub record OpensAgain (o : Opening) (w : Stopped o) (file peer_file : List ℕ) (local peer : BlockMap) : Type 0 where
  pub own : Identifiers
  pub other : Identifiers
  pub opens : opened_identifiers file ≡ Ok own
  pub peer_opens : opened_identifiers peer_file ≡ Ok other
  pub sound : IsSoundOpening (left_at (primary_of o w) (secondary_of o w) (known_in file) local peer own.tuple (peer_tuple other))
  pub unparted : IsUnparted o → IsUnparted (left_at (primary_of o w) (secondary_of o w) (known_in file) local peer own.tuple (peer_tuple other))

-- Two joined nodes with metadata stop at any moment, by a kill or by a crash. Whatever that leaves of both files, and whatever both
-- disks hold in the blocks that the primary's file marks or has entered, the next session has a sound opening with what the files say.
abbrev pub FilesLeaveASoundOpening : {F G : Type 0} → (F → List ℕ) → (F → List ℕ → Type 0) → (F → Bool) → (G → List ℕ) → (G → List ℕ → Type 0) → Type 0
FilesLeaveASoundOpening {F} {G} seen may_leave faithful peer_seen peer_may_leave =
    (o : Opening) (w : Stopped o) (m : MetadataState F) (n : MetadataState G) (is_doubted : Bool) (file peer_file : List ℕ) (local peer : BlockMap)
    → StopsWithFiles seen may_leave faithful peer_seen peer_may_leave o w m n is_doubted file peer_file local peer → OpensAgain o w file peer_file local peer

-- A stop of two nodes whose primary has metadata, and what it left of the file and of both disks. A call of the file may have failed,
-- but no full copy waits for its entries.
pub record StopsWithAFile {F : Type 0} (seen : F → List ℕ) (may_leave : F → List ℕ → Type 0) (faithful : F → Bool) (o : Opening) (w : Stopped o)
    (m : MetadataState F) (file : List ℕ) (local peer : BlockMap) : Type 0 where
  pub sound : IsSoundOpening o
  pub still : IsTrue (faithful m.file)
  pub covers : CoversPrimary (faithful m.file) (Outcomes seen may_leave m) m false (primary_of o w)
  pub left : Outcomes seen may_leave m file
  pub held : HoldOutside (primary_of o w) (secondary_of o w) (done_of o w) (known_in file) local peer

-- Whether a call of the primary's file has failed or not: what a stop leaves of the file marks or has entered each block that was marked
-- or under an unreleased write, so after a grounded history the next opening is sound with any identifiers.
abbrev pub BrokenFilesCover : {F : Type 0} → (F → List ℕ) → (F → List ℕ → Type 0) → (F → Bool) → Type 0
BrokenFilesCover {F} seen may_leave faithful =
    (o : Opening) (w : Stopped o) (m : MetadataState F) (file : List ℕ) (local peer : BlockMap) → StopsWithAFile seen may_leave faithful o w m file local peer
    → MayBeLeft (primary_of o w) (secondary_of o w) (done_of o w) (known_in file) local peer
    × (IsGrounded (primary_of o w) (secondary_of o w) → (own other : Tuple) → 0 < own.current
    → IsSoundOpening (left_at (primary_of o w) (secondary_of o w) (known_in file) local peer own other))

-- What the law above asks of the primary's metadata is what a kept primary has, as long as no call of its file has failed and each read
-- gave what had been written. `Metadata::is_broken` tells that the file stands.
abbrev pub PrimariesSaySo : {F : Type 0} → (F → List ℕ) → (F → List ℕ → Type 0) → (F → Bool) → Type 0
PrimariesSaySo {F} seen may_leave faithful =
    (opening : Option Opening) (v : PrimaryView) (m : MetadataState F) (owes_all : Bool) → PrimaryIsKept seen may_leave faithful opening v (Some m) owes_all
    → m.is_broken ≡ false → IsTrue (faithful m.file) → Stands m.header m.identifiers m.entries (seen m.file) (may_leave m.file)
    → (p : PrimaryHistory) × PrimaryHas v p × PrimaryBegan opening p × PrimaryIsSaid seen may_leave faithful m p

-- and so it is of a secondary's
abbrev pub SecondariesSaySo : {F : Type 0} → (F → List ℕ) → (F → List ℕ → Type 0) → Type 0
SecondariesSaySo {F} seen may_leave =
    (opening : Option Opening) (v : SecondaryView) (m : MetadataState F) (is_doubted : Bool) → SecondaryIsKept opening v (Some m) is_doubted
    → m.is_broken ≡ false → Stands m.header m.identifiers m.entries (seen m.file) (may_leave m.file)
    → (s : SecondaryHistory) × SecondaryHas v s × SecondaryBegan opening s × SecondaryIsSaid seen may_leave m is_doubted s
