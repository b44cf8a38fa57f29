-- The order of writes that a secondary keeps while it calls itself consistent.
use Rattle.std.specs.Prelude.{ℕ, suc, ◌≡◌, ◌<◌, ◌≤◌, ◌==◌, Bool, true, false, length, take, map, Some, slice_get, IsTrue}
use Rattle.std.specs.List.{list_any}
use Rattle.model.specs.Contents.{BlockMap, Layer, overlay}
use Rattle.model.specs.Stream.{epoch_of}
use Rattle.model.specs.Primary.{Accepted, PrimaryHistory, primary_connection_at, is_failed, is_sync_end}
use Rattle.model.specs.Secondary.{SecondaryHistory, secondary_connection, items_taken, secondary_map, whole}

-- A set of blocks of accepted writes: a write's number and an offset in it.
abbrev pub Blocks : Type 0
Blocks = ℕ → ℕ → Bool

-- the earlier write was completed before the later one was accepted
abbrev pub comes_before : PrimaryHistory → Accepted → Accepted → Bool
comes_before p earlier later = list_any (λ entry. entry.write.number == earlier.write.number) (take later.journal_length p.journal)

-- An ordered set: if it has a block of a write, it has all blocks of every write that comes before that one.
abbrev pub IsOrdered : PrimaryHistory → Blocks → Type 0
IsOrdered p set =
    (m n offset place : ℕ) (earlier later : Accepted) → slice_get p.writes m ≡ Some earlier → slice_get p.writes n ≡ Some later
    → comes_before p earlier later ≡ true
    → set later.write.number offset ≡ true → offset < length later.write.contents → place < length earlier.write.contents
    → set earlier.write.number place ≡ true

-- the blocks of a write that a set has, as a layer
abbrev pub layer_of : Blocks → Accepted → Layer
layer_of set accepted = record { first = accepted.write.first; contents = accepted.write.contents; laid = λ offset. set accepted.write.number offset }

-- the secondary has adopted the tuple that ends a resync
abbrev pub has_adopted : SecondaryHistory → Bool
has_adopted s = list_any (λ d. list_any is_sync_end (items_taken d)) s.connections

-- What the writes lie over: the secondary's opening disk, or the primary's once the secondary has adopted a tuple.
abbrev pub base_of : PrimaryHistory → SecondaryHistory → BlockMap
base_of p s block = elim (has_adopted s) [ true ↦ p.opening_map block | false ↦ s.opening_map block ]

-- The set has all blocks of each write of the secondary's last connection whose epoch it is whole to.
abbrev pub HasWholeEpochs : PrimaryHistory → SecondaryHistory → Blocks → Type 0
HasWholeEpochs p s set =
    (n k place offset : ℕ) (accepted : Accepted) → slice_get p.writes n ≡ Some accepted → accepted.home ≡ Some (record { index = k; place = place })
    → suc k ≡ (secondary_connection s).number
    → epoch_of (primary_connection_at p (suc k)).stream place ≤ whole s → offset < length accepted.write.contents → set accepted.write.number offset ≡ true

-- The set is on the secondary's disk: it is ordered, the disk is that set of the accepted writes over the base, and the
-- set has the epochs that the secondary is whole to.
pub record IsOnDisk (p : PrimaryHistory) (s : SecondaryHistory) (set : Blocks) : Type 0 where
  pub ordered : IsOrdered p set
  pub disk : (block : ℕ) → secondary_map s block ≡ overlay (base_of p s) (map (layer_of set) p.writes) block
  pub epochs : HasWholeEpochs p s set

-- Whenever it is consistent, the secondary's disk is an ordered set of the accepted writes over the base.
abbrev pub KeepsWriteOrder : PrimaryHistory → SecondaryHistory → Type 0
KeepsWriteOrder p s = s.consistent ≡ true → (set : Blocks) × IsOnDisk p s set

-- The premises of the write order: no local write failed, each block that a resync copied was as the local disk had it, and if both nodes opened with the same
-- current identifier, the primary had nothing to resync.
pub record IsUnharmed (p : PrimaryHistory) (s : SecondaryHistory) : Type 0 where
  pub faithful : IsTrue p.faithful
  pub local : list_any (λ accepted. is_failed accepted.outcome) p.writes ≡ false
  pub opening : p.opening_tuple.current ≡ s.opening_tuple.current → p.opening_tuple.bitmap ≡ 0
