-- The fields of an item that waits to be sent as plain values.
use Rattle.std.specs.Prelude.{◌≡◌, ◌*◌, ◌/◌, ◌<◌, ◌≤◌, ◌^◌, length}
use Rattle.blocks.specs.Contents.{blocks_of}
use Rattle.model.specs.Stream.{StreamItem, WriteItem, ResyncItem, BarrierItem, SyncUuidItem, UuidsItem}
use Rattle.primary_core.specs.declared.item.ItemKind.{ItemKind}
use Rattle.primary_core.specs.declared.item.ItemKind.TheVariants as kind
use Rattle.primary_core.specs.declared.item.StreamItem.TheInside.{Inside}

-- an item by its kind
abbrev pub item_as : ItemKind → StreamItem
item_as (kind.Write number first contents) = WriteItem (record { number = number; first = first.0; contents = blocks_of 4096 contents })
item_as (kind.Resync block contents) = ResyncItem block.0 contents
item_as (kind.Barrier number) = BarrierItem number
item_as (kind.SyncUuid word) = SyncUuidItem word
item_as (kind.Uuids tuple) = UuidsItem tuple

-- the fields as a plain value
abbrev pub item_of : Inside → StreamItem
item_of i = item_as i.kind

-- A write has a number, and whole blocks of its own; a resync block is one. Their blocks have sector numbers.
abbrev pub IsSent : ItemKind → Type 0
IsSent (kind.Write number first contents) = (8 * first.0 < 2 ^ 64) × (0 < number) × (0 < length contents) × (length contents ≤ 131072)
    × (4096 * (length contents / 4096) ≡ length contents)
IsSent (kind.Resync block contents) = (8 * block.0 < 2 ^ 64) × (length contents ≡ 4096)
IsSent (kind.Barrier number) = Unit {0}
IsSent (kind.SyncUuid word) = Unit {0}
IsSent (kind.Uuids tuple) = Unit {0}

-- the item has a spelling
abbrev pub IsItem : Inside → Type 0
IsItem i = IsSent i.kind
