-- The stream of a connection: its items, their places and epochs, and parts of it.
use Rattle.std.specs.Prelude.{ℕ, suc, ◌≡◌, ◌<◌, ◌≤◌, nat_lt, ◌==◌, Bool, true, false, ◌&&◌, List, [], ◌∷◌, ◌++◌, length, take, filter, Some, slice_get}
use Rattle.std.specs.List.{list_any, list_all}
use Rattle.blocks.specs.declared.tuple.Tuple.{Tuple}
use Rattle.model.specs.Contents.{Write, Layer, ranges_meet}
pub use Rattle.blocks.specs.Ranges.{below}

-- What goes over a connection in order, after the hello (`drbd_protocol.h`; places: this project's).
pub data StreamItem : Type 0 where
  WriteItem : (write : Write) → StreamItem
  ResyncItem : (block : ℕ) (contents : List ℕ) → StreamItem
  BarrierItem : (epoch : ℕ) → StreamItem
  SyncUuidItem : (word : ℕ) → StreamItem
  UuidsItem : (tuple : Tuple) → StreamItem

-- the item ends an epoch
abbrev pub is_barrier : StreamItem → Bool
is_barrier (WriteItem write) = false
is_barrier (ResyncItem block contents) = false
is_barrier (BarrierItem epoch) = true
is_barrier (SyncUuidItem word) = false
is_barrier (UuidsItem tuple) = false

-- the item is a write
abbrev pub is_write : StreamItem → Bool
is_write (WriteItem write) = true
is_write (ResyncItem block contents) = false
is_write (BarrierItem epoch) = false
is_write (SyncUuidItem word) = false
is_write (UuidsItem tuple) = false

-- the first block of a write or a resync item; 0 for the other items, which have no blocks
abbrev pub first_of : StreamItem → ℕ
first_of (WriteItem write) = write.first
first_of (ResyncItem block contents) = block
first_of (BarrierItem epoch) = 0
first_of (SyncUuidItem word) = 0
first_of (UuidsItem tuple) = 0

-- the number of a write; 0 for the other items, which have none
abbrev pub number_of : StreamItem → ℕ
number_of (WriteItem write) = write.number
number_of (ResyncItem block contents) = 0
number_of (BarrierItem epoch) = 0
number_of (SyncUuidItem word) = 0
number_of (UuidsItem tuple) = 0

-- the blocks that an item puts on a disk
abbrev pub contents_of : StreamItem → List (List ℕ)
contents_of (WriteItem write) = write.contents
contents_of (ResyncItem block contents) = contents ∷ []
contents_of (BarrierItem epoch) = []
contents_of (SyncUuidItem word) = []
contents_of (UuidsItem tuple) = []

-- a write or a resync item: what is applied to the peer's disk
abbrev pub has_blocks : StreamItem → Bool
has_blocks item = nat_lt 0 (length (contents_of item))

-- how many barriers there are
abbrev pub barriers_in : List StreamItem → ℕ
barriers_in items = length (filter is_barrier items)

-- The epoch of a place: the number of barriers before it, plus one.
abbrev pub epoch_of : List StreamItem → ℕ → ℕ
epoch_of items place = suc (barriers_in (take place items))

-- the epoch that is open at the end of a stream
abbrev pub last_epoch : List StreamItem → ℕ
last_epoch items = suc (barriers_in items)

-- the items from a place on, each with its place
abbrev pub placed_from : ℕ → List StreamItem → List (ℕ × StreamItem)
placed_from place [] = []
placed_from place (item ∷ items) = (place, item) ∷ placed_from (suc place) items

-- the items with their places
abbrev pub placed : List StreamItem → List (ℕ × StreamItem)
placed items = placed_from 0 items

-- the items of one epoch, with their places
abbrev pub items_of_epoch : List StreamItem → ℕ → List (ℕ × StreamItem)
items_of_epoch items epoch = filter (λ entry. epoch_of items entry.0 == epoch) (placed items)

-- The size of an epoch is the number of its writes. Resync items are not counted.
abbrev pub epoch_size : List StreamItem → ℕ → ℕ
epoch_size items epoch = length (filter (λ entry. is_write entry.1) (items_of_epoch items epoch))

-- whether two items share a block
abbrev pub items_meet : StreamItem → StreamItem → Bool
items_meet a b = ranges_meet (first_of a) (length (contents_of a)) (first_of b) (length (contents_of b))

-- A lawful stream: barriers are numbered from 1, numbers of writes rise, the items of an epoch share no block, and no
-- epoch has more than `max_epoch` writes.
pub record IsLawful (max_epoch : ℕ) (items : List StreamItem) : Type 0 where
  pub barriers : (place epoch : ℕ) → slice_get items place ≡ Some (BarrierItem epoch) → epoch ≡ epoch_of items place
  pub rising : (place later : ℕ) (a b : Write) → place < later → slice_get items place ≡ Some (WriteItem a) → slice_get items later ≡ Some (WriteItem b)
      → a.number < b.number
  pub apart : (place later : ℕ) (a b : StreamItem) → place < later → epoch_of items place ≡ epoch_of items later → slice_get items place ≡ Some a
      → slice_get items later ≡ Some b → items_meet a b ≡ false
  pub small : (epoch : ℕ) → epoch_size items epoch ≤ max_epoch

-- A part of a stream: pairs of a place and an offset, each a block of an item.
abbrev pub Part : Type 0
Part = List (ℕ × ℕ)

-- the part has this offset of the item at this place
abbrev pub is_in : Part → ℕ → ℕ → Bool
is_in part place offset = list_any (λ pair. (pair.0 == place) && (pair.1 == offset)) part

-- the offsets of these that an item of `count` blocks has
abbrev pub within : ℕ → List ℕ → List ℕ
within count offsets = filter (λ offset. nat_lt offset count) offsets

-- whether a part has all blocks of an item
abbrev pub is_whole : Part → ℕ → StreamItem → Bool
is_whole part place item = list_all (λ offset. is_in part place offset) (below (length (contents_of item)))

-- The part has all of the epochs before `epoch` and nothing of those after it.
pub record IsClosedAt (epoch : ℕ) (items : List StreamItem) (part : Part) : Type 0 where
  pub before : (place offset : ℕ) (item : StreamItem) → slice_get items place ≡ Some item → epoch_of items place < epoch → offset < length (contents_of item)
      → is_in part place offset ≡ true
  pub after : (place offset : ℕ) → is_in part place offset ≡ true → epoch_of items place ≤ epoch

-- what the items of a part lay over a disk, in the order of the stream
abbrev pub layers_from : ℕ → List StreamItem → Part → List Layer
layers_from place [] part = []
layers_from place (item ∷ items) part =
    record { first = first_of item; contents = contents_of item; laid = λ offset. is_in part place offset } ∷ layers_from (suc place) items part

-- what the items of a part lay over a disk, from the first place on
abbrev pub layers_of : List StreamItem → Part → List Layer
layers_of items part = layers_from 0 items part

-- the second list begins with the first
abbrev pub IsBeginning : {X : Type 0} → List X → List X → Type 0
IsBeginning {X} front whole = (rest : List X) × (front ++ rest ≡ whole)
