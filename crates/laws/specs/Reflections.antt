-- A primary's half of the cover: what holds of a block that is neither marked nor covered by an unreleased write. It is
-- stated so that it stays true when the release of a write clears a mark.
use Rattle.std.specs.Prelude.{ℕ, ◌≡◌, ◌-◌, ◌<◌, ◌⊎◌, Bool, false, true, List, length, Option, Some, slice_get, Ok}
use Rattle.blocks.specs.declared.tuple.Tuple.{Tuple}
use Rattle.blocks.specs.declared.outcome.Decision.{Decision}
use Rattle.blocks.specs.declared.outcome.Decision.TheVariants.{FullSync}
use Rattle.model.specs.Contents.{is_between}
use Rattle.model.specs.Stream.{StreamItem, WriteItem, ResyncItem, first_of, contents_of, epoch_of}
use Rattle.model.specs.Frames.{UuidsFrame}
use Rattle.model.specs.Identifiers.{decision}
use Rattle.model.specs.Primary.{PrimaryConnection, PrimaryHistory, barrier_acknowledged, was_resynced, local_map}
use Rattle.model.specs.Headline.{opening_marked}

-- the item covers the block
abbrev pub touches : StreamItem → ℕ → Bool
touches item block = is_between (first_of item) (length (contents_of item)) block

-- what the item has for the block
abbrev pub content_at : StreamItem → ℕ → Option (List ℕ)
content_at item block = slice_get (contents_of item) (block - first_of item)

-- The peer has acknowledged that an item is on its disk: a write by its epoch's acknowledgement, a resync block by its
-- own.
abbrev pub is_sure : PrimaryConnection → ℕ → StreamItem → Bool
is_sure c place (WriteItem write) = barrier_acknowledged c (epoch_of c.stream place)
is_sure c place (ResyncItem block contents) = was_resynced c place (ResyncItem block contents)
is_sure c place _ = false

-- one place is later than another: on the same connection, or on a later one
abbrev pub IsLater : ℕ → ℕ → ℕ → ℕ → Type 0
IsLater connection place other later = (connection < other) ⊎ ((connection ≡ other) × (place < later))

-- The local block holds what an item wrote there that the peer has surely applied, and every later item that covers the
-- block has the same.
pub record FromItem (h : PrimaryHistory) (block : ℕ) : Type 0 where
  pub connection : ℕ
  pub place : ℕ
  pub end : PrimaryConnection
  pub item : StreamItem
  pub at : slice_get h.connections connection ≡ Some end
  pub there : slice_get end.stream place ≡ Some item
  pub touched : touches item block ≡ true
  pub sure : is_sure end place item ≡ true
  pub content : content_at item block ≡ local_map h block
  pub later : (other next : ℕ) (c : PrimaryConnection) (i : StreamItem) → slice_get h.connections other ≡ Some c → slice_get c.stream next ≡ Some i
      → touches i block ≡ true
      → IsLater connection place other next → content_at i block ≡ local_map h block

-- no stream has begun, and the tuple is the opening's
pub record NoneBegan (h : PrimaryHistory) : Type 0 where
  pub none : (k : ℕ) (c : PrimaryConnection) → slice_get h.connections k ≡ Some c → c.begun ≡ false
  pub tuple : h.tuple ≡ h.opening_tuple

-- The first stream that began, and what the opening tuple and the peer's decided for it.
pub record FirstBegan (h : PrimaryHistory) (decided : Decision) : Type 0 where
  pub connection : ℕ
  pub end : PrimaryConnection
  pub at : slice_get h.connections connection ≡ Some end
  pub begun : end.begun ≡ true
  pub earlier : (k : ℕ) (c : PrimaryConnection) → k < connection → slice_get h.connections k ≡ Some c → c.begun ≡ false
  pub peer : Tuple
  pub n : ℕ
  pub taken : slice_get end.taken n ≡ Some (Ok (UuidsFrame peer))
  pub decides : decision h.opening_tuple peer ≡ Ok decided

-- The local block holds what it held at the opening, and was not marked then; every item that covers it has the same,
-- and if a stream began, the first did not mark all blocks.
pub record FromOpening (h : PrimaryHistory) (block : ℕ) : Type 0 where
  pub content : h.opening_map block ≡ local_map h block
  pub unmarked : opening_marked h block ≡ false
  pub items : (k place : ℕ) (c : PrimaryConnection) (i : StreamItem) → slice_get h.connections k ≡ Some c → slice_get c.stream place ≡ Some i
      → touches i block ≡ true
      → content_at i block ≡ local_map h block
  pub began : NoneBegan h ⊎ ((decided : Decision) × FirstBegan h decided × (block < h.settings.blocks → decided ≡ FullSync → ⊥))
