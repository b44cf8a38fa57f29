-- What a primary's history keeps of the blocks of its disk, whatever frames it takes: on an unmarked block the items of
-- its streams come to the same as its own writes.
pub mod Added
pub mod JournalOnDisk
pub mod Kept
pub mod Moves
pub mod Numbers
pub mod Outcomes
pub mod Quiet
use Rattle.std.proofs.Common.{ℕ, ◌≡◌, ◌+◌, ◌<◌, ◌≤◌, true, false, List, length, Some, slice_get, IsTrue}
use Rattle.std.specs.Prelude.{is_some}
use Rattle.model.specs.Contents.{Write, covers}
use Rattle.model.specs.Stream.{WriteItem, ResyncItem}
use Rattle.model.specs.Primary.{Accepted, PrimaryConnection, PrimaryHistory, primary_connection, last_index, is_established, was_resynced, is_completed}
use Rattle.model.specs.Primary.{is_on_disk, is_waiting}
use Rattle.laws.proofs.Primary.Homes.{HasHomes}
use Rattle.laws.proofs.Blocks.Latest.{Touch, latest, sent_map, settling_map}

-- a block of a resync is under way on a standing stream: it was not acknowledged
pub record IsUnderWay (c : PrimaryConnection) (place block : ℕ) (contents : List ℕ) : Type 0 where
  pub standing : is_established c ≡ true
  pub there : slice_get c.stream place ≡ Some (ResyncItem block contents)
  pub unanswered : was_resynced c place (ResyncItem block contents) ≡ false

-- a block of a resync stands on a standing stream, acknowledged or not, and no write behind it has the block
pub record IsCopy (c : PrimaryConnection) (place block : ℕ) (contents : List ℕ) : Type 0 where
  pub standing : is_established c ≡ true
  pub there : slice_get c.stream place ≡ Some (ResyncItem block contents)
  pub last : (next : ℕ) (write : Write) → place < next → slice_get c.stream next ≡ Some (WriteItem write) → covers write block ≡ false

-- the local disk comes to hold these bytes in the block, if the history is faithful, and no write that waits for it has the block
abbrev pub Settles : PrimaryHistory → ℕ → List ℕ → Type 0
Settles h block contents =
    (IsTrue h.faithful → settling_map h block ≡ Some contents) × ((i : ℕ) (accepted : Accepted) → slice_get h.writes i ≡ Some accepted → is_waiting accepted.outcome ≡ true
    → covers accepted.write block ≡ false)

-- Writes and items lie in the device; a completed write is on the local disk; what is under way is the last item on its block; a
-- block of a resync that no later write has is what the local disk comes to hold; and so is, on each unmarked
-- block, what was sent; both if the history is faithful.
pub record IsTracked (h : PrimaryHistory) : Type 0 where
  pub homes : HasHomes h
  pub sized : (block : ℕ) → block < h.settings.blocks → is_some (h.opening_map block) ≡ true
  pub writes_inside : (i : ℕ) (accepted : Accepted) → slice_get h.writes i ≡ Some accepted
      → accepted.write.first + length accepted.write.contents ≤ h.settings.blocks
  pub items_inside : (block : ℕ) (touch : Touch) → latest h.connections block ≡ Some touch → block < h.settings.blocks
  pub on_disk : (i : ℕ) (accepted : Accepted) → slice_get h.writes i ≡ Some accepted → is_completed h accepted.write.number ≡ true
      → is_on_disk accepted.outcome ≡ true
  pub under_way : (place block : ℕ) (contents : List ℕ) → IsUnderWay (primary_connection h) place block contents
      → latest h.connections block ≡ Some (record { connection = last_index h.connections; place = place; item = ResyncItem block contents })
  pub copied : (place block : ℕ) (contents : List ℕ) → IsCopy (primary_connection h) place block contents → Settles h block contents
  pub equal : (block : ℕ) → block < h.settings.blocks → h.marks block ≡ false → IsTrue h.faithful → sent_map h block ≡ settling_map h block
