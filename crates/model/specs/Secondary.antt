-- The history of a secondary, and the values that it determines.
use Rattle.std.specs.Prelude.{ℕ, nat_le, ◌==◌, Bool, true, false, ◌&&◌, ◌||◌, not, List, [], ◌++◌, length, drop, filter, find, filter_map, map, Option, None}
use Rattle.std.specs.Prelude.{option_map, unwrap_or, slice_get, suc, Ok, Err}
use Rattle.std.specs.List.{list_any, list_all}
use Rattle.blocks.specs.declared.tuple.Tuple.{Tuple}
use Rattle.blocks.specs.declared.settings.Settings.{Settings}
use Rattle.model.specs.Contents.{BlockMap, overlay}
use Rattle.model.specs.Stream.{StreamItem, has_blocks, epoch_of, placed, barriers_in, below, Part, is_whole, layers_of}
use Rattle.model.specs.Frames.{Packet, Received, item_of, hello_of, counting}
use Rattle.model.specs.Primary.{last_of, change_last, in_resync}

-- One connection at the secondary's end: its number, the disk and the tuple as they were when the end opened, the
-- frames that were taken, whether the last of them was refused as a protocol error, the part of the stream that is
-- applied, the places that failed or were dropped, the acknowledgements due, how many frames were pushed, and whether
-- the end is closed.
pub record SecondaryConnection : Type 0 where
  pub number : ℕ
  pub base : BlockMap
  pub hello : Tuple
  pub taken : List Received
  pub refused : Bool
  pub applied : Part
  pub gone : List ℕ
  pub due : List Packet
  pub pushed : ℕ
  pub closed : Bool

-- The secondary's history. Connections are in the order of their opening, and their numbers rise.
pub record SecondaryHistory : Type 0 where
  pub settings : Settings
  pub opening_map : BlockMap
  pub opening_tuple : Tuple
  pub tuple : Tuple
  pub consistent : Bool
  pub connections : List SecondaryConnection

-- The secondary at its start: it is consistent unless its current identifier is zero.
abbrev pub secondary_opening : Settings → BlockMap → Tuple → SecondaryHistory
secondary_opening settings disk tuple = record {
  settings = settings;
  opening_map = disk;
  opening_tuple = tuple;
  tuple = tuple;
  consistent = not (tuple.current == 0);
  connections = [];
}

-- a new connection: its number, what the disk holds then, and the tuple of its hello
abbrev pub new_secondary_connection : ℕ → BlockMap → Tuple → SecondaryConnection
new_secondary_connection number base hello = record {
  number = number;
  base = base;
  hello = hello;
  taken = [];
  refused = false;
  applied = [];
  gone = [];
  due = [];
  pushed = 0;
  closed = false;
}

-- an end that was never open: a closed one on which nothing happened
abbrev pub no_secondary_connection : SecondaryHistory → SecondaryConnection
no_secondary_connection h = record {
  number = 0;
  base = h.opening_map;
  hello = h.tuple;
  taken = [];
  refused = false;
  applied = [];
  gone = [];
  due = [];
  pushed = 0;
  closed = true;
}

-- the last connection, or a closed one if there was none
abbrev pub secondary_connection : SecondaryHistory → SecondaryConnection
secondary_connection h = last_of (no_secondary_connection h) h.connections

-- The secondary's end of a connection by its number, counted from 1; a closed one on which nothing happened, if this
-- node never opened it.
abbrev pub secondary_connection_at : SecondaryHistory → ℕ → SecondaryConnection
secondary_connection_at h number = unwrap_or (find (λ c. c.number == number) h.connections) (no_secondary_connection h)

-- changes the last connection
abbrev pub with_secondary_connection : (SecondaryConnection → SecondaryConnection) → SecondaryHistory → SecondaryHistory
with_secondary_connection f h = record h { connections = change_last f h.connections }

-- The stream's frames that were taken and not refused.
abbrev pub accepted_of : SecondaryConnection → List Received
accepted_of c = drop 3 (counting c.refused c.taken)

-- the item of a frame, if it is one
abbrev pub received_item : Received → Option StreamItem
received_item (Ok packet) = item_of packet
received_item (Err fault) = None

-- the items taken, in the order of their places
abbrev pub items_taken : SecondaryConnection → List StreamItem
items_taken c = filter_map received_item (accepted_of c)

-- Pending: the item has blocks, is not wholly applied, and neither failed nor was dropped.
abbrev pub is_pending : SecondaryConnection → ℕ × StreamItem → Bool
is_pending c entry = (has_blocks entry.1 && not (is_whole c.applied entry.0 entry.1)) && not (list_any (λ place. place == entry.0) c.gone)

-- the pending items of those that were taken, with their places
abbrev pub pending : SecondaryConnection → List (ℕ × StreamItem)
pending c = filter (is_pending c) (placed (items_taken c))

-- the lowest pending place
abbrev pub next_pending : SecondaryHistory → Option ℕ
next_pending h = option_map (λ entry. entry.0) (slice_get (pending (secondary_connection h)) 0)

-- Drained: nothing is pending.
abbrev pub is_drained : SecondaryHistory → Bool
is_drained h = length (pending (secondary_connection h)) == 0

-- the disk: what is applied on the last connection, over what it held when the connection opened
abbrev pub map_of : SecondaryConnection → BlockMap
map_of c = overlay c.base (layers_of (items_taken c) c.applied)

-- the secondary's disk now
abbrev pub secondary_map : SecondaryHistory → BlockMap
secondary_map h = map_of (secondary_connection h)

-- all frames that the end is to send: its hello, and then its acknowledgements
abbrev pub answers_due : Settings → SecondaryConnection → List Packet
answers_due settings c = hello_of settings c.hello ++ c.due

-- every write and resync item up to the end of an epoch is applied
abbrev pub is_applied_to : SecondaryConnection → ℕ → Bool
is_applied_to c epoch =
    let items = items_taken c in
    list_all (λ entry. not (nat_le (epoch_of items entry.0) epoch && has_blocks entry.1) || is_whole c.applied entry.0 entry.1) (placed items)

-- whether the stream taken is in a resync
abbrev pub is_in_resync : SecondaryConnection → Bool
is_in_resync c = in_resync (items_taken c)

-- Usage: whether the secondary may be used as it is, and how far it is whole (this project's rule).

-- An item is done: all of it was applied by one write of the disk that did not fail. An item that failed is not, even
-- if all its blocks reached the disk.
abbrev pub is_done : SecondaryConnection → ℕ × StreamItem → Bool
is_done c entry = is_whole c.applied entry.0 entry.1 && not (list_any (λ place. place == entry.0) c.gone)

-- every write and resync item up to the end of an epoch is done
abbrev pub is_done_to : SecondaryConnection → ℕ → Bool
is_done_to c epoch =
    let items = items_taken c in
    list_all (λ entry. not (nat_le (epoch_of items entry.0) epoch && has_blocks entry.1) || is_done c entry) (placed items)

-- The greatest epoch whose barrier was taken on the last connection, and up to whose end every item is done; 0 if there
-- is none.
abbrev pub whole : SecondaryHistory → ℕ
whole h = let c = secondary_connection h in last_of 0 (filter (is_done_to c) (map suc (below (barriers_in (items_taken c)))))
