-- The fields of an item as plain values.
use Rattle.std.specs.Prelude.{ℕ, ◌≡◌, ◌==◌, ◌*◌, ◌<◌, ◌^◌, Bool, true, false, List, length}
use Rattle.blocks.specs.Contents.{blocks_of}
use Rattle.model.specs.Stream.{StreamItem, WriteItem, ResyncItem}
use Rattle.secondary_core.specs.declared.item.ItemKind.{ItemKind}
use Rattle.secondary_core.specs.declared.item.ItemKind.TheVariants as kind
use Rattle.secondary_core.specs.declared.item.PendingItem.TheInside.{Inside}

-- a write of these bytes, or a block of a resync
abbrev pub item_as : ItemKind → ℕ → List ℕ → StreamItem
item_as (kind.Write number) first bytes = WriteItem (record { number = number; first = first; contents = blocks_of 4096 bytes })
item_as kind.Resync first bytes = ResyncItem first bytes

-- the fields as a plain value
abbrev pub item_of : Inside → StreamItem
item_of i = item_as i.kind i.range.first.0 i.contents

-- a write has a number, and a resync's item one block
abbrev pub IsNamed : ItemKind → ℕ → Type 0
IsNamed (kind.Write number) count = 0 < number
IsNamed kind.Resync count = count ≡ 1

-- the item is a write of this number, or a block of a resync
abbrev pub is_kind : ItemKind → StreamItem → Bool
is_kind (kind.Write number) (WriteItem write) = number == write.number
is_kind kind.Resync (ResyncItem block contents) = true
is_kind k item = false

-- the first block has a sector number, and the contents are whole blocks, as many as the range has
pub record IsItem (i : Inside) : Type 0 where
  pub small : 8 * i.range.first.0 < 2 ^ 64
  pub whole : length i.contents ≡ 4096 * i.range.count
  pub named : IsNamed i.kind i.range.count
