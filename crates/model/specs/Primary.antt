-- The history of a primary, and the values that it determines.
use Rattle.std.specs.Prelude.{ℕ, zero, suc, unwrap_or, ◌-◌, nat_lt, ◌==◌, Bool, true, false, ◌&&◌, ◌||◌, not, if◌then◌else◌, List, [], ◌∷◌, ◌++◌, length, map}
use Rattle.std.specs.Prelude.{filter, find, Option, Some, None, option_map, slice_get, Ok}
use Rattle.std.specs.List.{list_any}
use Rattle.blocks.specs.Positions.{StreamPosition}
use Rattle.blocks.specs.declared.tuple.Tuple.{Tuple}
use Rattle.blocks.specs.declared.settings.Settings.{Settings}
use Rattle.blocks.specs.declared.settings.Protocol.{Protocol}
use Rattle.blocks.specs.declared.settings.Protocol.TheVariants as protocol
use Rattle.model.specs.Contents.{BlockMap, Write, covers, Layer, overlay, extent_of}
use Rattle.model.specs.Stream.{StreamItem, WriteItem, ResyncItem, SyncUuidItem, UuidsItem, epoch_of, placed, below}
use Rattle.model.specs.Frames.{Packet, RecvAckFrame, WriteAckFrame, RsWriteAckFrame, BarrierAckFrame, Acknowledged, Received, hello_of, frames_of, naming}
use Rattle.model.specs.Frames.{counting}

-- What the local disk did with a write: nothing yet, wrote all of it, or failed it after these offsets reached the
-- disk.
pub data LocalOutcome : Type 0 where
  Waiting : LocalOutcome
  OnDisk : LocalOutcome
  Failed : (offsets : List ℕ) → LocalOutcome

-- An accepted write: the journal's length when it was accepted, its home (the index of the connection and the place in
-- its stream, both from 0) or none, and what the local disk did with it.
pub record Accepted : Type 0 where
  pub write : Write
  pub journal_length : ℕ
  pub home : Option StreamPosition
  pub outcome : LocalOutcome

-- How a write was completed: over the link, or without it.
pub data CompletionKind : Type 0 where
  Linked : CompletionKind
  Alone : CompletionKind

-- an entry of the journal of completions
pub record Completion : Type 0 where
  pub write : Write
  pub kind : CompletionKind
  pub home : Option StreamPosition

-- One connection at the primary's end: its two words, the tuple that its hello names, its stream, how many frames were
-- pushed, those that were taken, whether the last of them was refused as a protocol error, whether the stream has
-- begun, and whether the end is closed.
pub record PrimaryConnection : Type 0 where
  pub sync : ℕ
  pub loss : ℕ
  pub hello : Tuple
  pub stream : List StreamItem
  pub pushed : ℕ
  pub taken : List Received
  pub refused : Bool
  pub begun : Bool
  pub closed : Bool

-- The primary's history. Connections are in the order of their opening, writes by rising number. It is faithful while each block that a
-- resync copied was as the local disk had it then.
pub record PrimaryHistory : Type 0 where
  pub settings : Settings
  pub opening_map : BlockMap
  pub opening_tuple : Tuple
  pub opening_marks : ℕ → Bool
  pub writes : List Accepted
  pub marks : ℕ → Bool
  pub journal : List Completion
  pub receipts : List ℕ
  pub tuple : Tuple
  pub peer : Option Tuple
  pub connections : List PrimaryConnection
  pub faithful : Bool

-- the primary at its start: nothing has happened yet
abbrev pub primary_opening : Settings → BlockMap → Tuple → (ℕ → Bool) → PrimaryHistory
primary_opening settings disk tuple marks = record {
  settings = settings;
  opening_map = disk;
  opening_tuple = tuple;
  opening_marks = marks;
  writes = [];
  marks = marks;
  journal = [];
  receipts = [];
  tuple = tuple;
  peer = None;
  connections = [];
  faithful = true;
}

-- a new connection with its two words and the tuple of its hello
abbrev pub new_primary_connection : ℕ → ℕ → Tuple → PrimaryConnection
new_primary_connection sync loss hello = record {
  sync = sync;
  loss = loss;
  hello = hello;
  stream = [];
  pushed = 0;
  taken = [];
  refused = false;
  begun = false;
  closed = false;
}

-- a closed connection on which nothing happened, for when there is none
abbrev pub no_primary_connection : Tuple → PrimaryConnection
no_primary_connection t = record { sync = 0; loss = 0; hello = t; stream = []; pushed = 0; taken = []; refused = false; begun = false; closed = true }

-- the last element, or the first argument if the list is empty
abbrev pub last_of : {X : Type 0} → X → List X → X
last_of none [] = none
last_of none (x ∷ xs) = last_of x xs

-- the last connection, open or closed, or a closed one if there was none
abbrev pub primary_connection : PrimaryHistory → PrimaryConnection
primary_connection h = last_of (no_primary_connection h.tuple) h.connections

-- The primary's end of a connection by its number, counted from 1; a closed one on which nothing happened, if this node
-- never opened it.
abbrev pub primary_connection_at : PrimaryHistory → ℕ → PrimaryConnection
primary_connection_at h zero = no_primary_connection h.tuple
primary_connection_at h (suc k) = unwrap_or (slice_get h.connections k) (no_primary_connection h.tuple)

-- the index of the last connection, from 0
abbrev pub last_index : {X : Type 0} → List X → ℕ
last_index xs = length xs - 1

-- a list with its last element changed
abbrev pub change_last : {X : Type 0} → (X → X) → List X → List X
change_last f [] = []
change_last f (x ∷ []) = f x ∷ []
change_last f (x ∷ y ∷ xs) = x ∷ change_last f (y ∷ xs)

-- changes the last connection
abbrev pub with_primary_connection : (PrimaryConnection → PrimaryConnection) → PrimaryHistory → PrimaryHistory
with_primary_connection f h = record h { connections = change_last f h.connections }

-- The connection is established: the end is open and its stream has begun.
abbrev pub is_established : PrimaryConnection → Bool
is_established c = not c.closed && c.begun

-- Frames.

-- all frames that the end is to send: its hello, and then its stream
abbrev pub frames_due : Settings → PrimaryConnection → List Packet
frames_due settings c = hello_of settings c.hello ++ frames_of c.stream

-- how many items were sent: what was pushed after the three frames of the hello
abbrev pub items_sent : PrimaryConnection → ℕ
items_sent c = c.pushed - 3

-- how many items of the stream wait to be sent, if the end is open
abbrev pub unsent : PrimaryConnection → ℕ
unsent c = if c.closed then 0 else length c.stream - items_sent c

-- the frames taken that count
abbrev pub accepted_frames : PrimaryConnection → List Received
accepted_frames c = counting c.refused c.taken

-- Acknowledgements.

-- two acknowledgements name the same item with the same range
abbrev pub same_naming : Acknowledged → Acknowledged → Bool
same_naming a b = ((a.first == b.first) && (a.number == b.number)) && ((a.count == b.count) && (a.place == b.place))

-- the frame is the RECV_ACK of this item
abbrev pub is_recv_ack : Acknowledged → Received → Bool
is_recv_ack of (Ok (RecvAckFrame ack)) = same_naming of ack
is_recv_ack of _ = false

-- the frame is the WRITE_ACK of this item
abbrev pub is_write_ack : Acknowledged → Received → Bool
is_write_ack of (Ok (WriteAckFrame ack)) = same_naming of ack
is_write_ack of _ = false

-- the frame is the RS_WRITE_ACK of this item
abbrev pub is_rs_write_ack : Acknowledged → Received → Bool
is_rs_write_ack of (Ok (RsWriteAckFrame ack)) = same_naming of ack
is_rs_write_ack of _ = false

-- the frame acknowledges this epoch's barrier
abbrev pub is_barrier_ack : ℕ → Received → Bool
is_barrier_ack epoch (Ok (BarrierAckFrame number size)) = number == epoch
is_barrier_ack epoch _ = false

-- the peer has acknowledged that it received the item
abbrev pub was_received : PrimaryConnection → ℕ → StreamItem → Bool
was_received c place item = list_any (is_recv_ack (naming place item)) (accepted_frames c)

-- the peer has acknowledged that the write is on its disk
abbrev pub was_written : PrimaryConnection → ℕ → StreamItem → Bool
was_written c place item = list_any (is_write_ack (naming place item)) (accepted_frames c)

-- the peer has acknowledged that the block of a resync is on its disk
abbrev pub was_resynced : PrimaryConnection → ℕ → StreamItem → Bool
was_resynced c place item = list_any (is_rs_write_ack (naming place item)) (accepted_frames c)

-- the peer has acknowledged that all of the epoch is applied
abbrev pub barrier_acknowledged : PrimaryConnection → ℕ → Bool
barrier_acknowledged c epoch = list_any (is_barrier_ack epoch) (accepted_frames c)

-- The write at a place is answered: under A once it was sent, under B once the peer has received it, under C once it is
-- on the peer's disk (DRBD User's Guide, "Replication modes").
abbrev pub is_answered_by : Protocol → PrimaryConnection → ℕ → StreamItem → Bool
is_answered_by protocol.A c place item = nat_lt place (items_sent c)
is_answered_by protocol.B c place item = was_received c place item
is_answered_by protocol.C c place item = was_written c place item

-- the write has a home in a stream, and is answered there
abbrev pub is_answered : PrimaryHistory → Accepted → Bool
is_answered h accepted = elim accepted.home [
  | None ↦ false
  | Some home ↦ elim (slice_get h.connections home.index) [
    | None ↦ false
    | Some c ↦ is_answered_by h.settings.protocol c home.place (WriteItem accepted.write)
  ]
]

-- The write is alone: accepted while no connection was established, or the primary has closed its connection.
abbrev pub is_alone : PrimaryHistory → Accepted → Bool
is_alone h accepted = elim accepted.home [
  | None ↦ true
  | Some home ↦ elim (slice_get h.connections home.index) [ None ↦ true | Some c ↦ c.closed ]
]

-- The states of a write.

-- the local disk has written it
abbrev pub is_on_disk : LocalOutcome → Bool
is_on_disk Waiting = false
is_on_disk OnDisk = true
is_on_disk (Failed offsets) = false

-- the local disk has failed it
abbrev pub is_failed : LocalOutcome → Bool
is_failed Waiting = false
is_failed OnDisk = false
is_failed (Failed offsets) = true

-- the local disk has neither written nor failed it
abbrev pub is_waiting : LocalOutcome → Bool
is_waiting Waiting = true
is_waiting OnDisk = false
is_waiting (Failed offsets) = false

-- the journal has the write
abbrev pub is_completed : PrimaryHistory → ℕ → Bool
is_completed h number = list_any (λ entry. entry.write.number == number) h.journal

-- open: neither completed nor failed
abbrev pub is_open : PrimaryHistory → Accepted → Bool
is_open h accepted = not (is_completed h accepted.write.number) && not (is_failed accepted.outcome)

-- the write can be completed: its local write is done, and it is answered or alone
abbrev pub completes : PrimaryHistory → Accepted → Bool
completes h accepted = is_on_disk accepted.outcome && (is_answered h accepted || is_alone h accepted)

-- the epoch of a write with a home
abbrev pub home_epoch : PrimaryHistory → StreamPosition → ℕ
home_epoch h home = elim (slice_get h.connections home.index) [ None ↦ 0 | Some c ↦ epoch_of c.stream home.place ]

-- the BARRIER_ACK of the write's epoch was taken
abbrev pub is_confirmed : PrimaryHistory → Accepted → Bool
is_confirmed h accepted = elim accepted.home [
  | None ↦ false
  | Some home ↦ elim (slice_get h.connections home.index) [ None ↦ false | Some c ↦ barrier_acknowledged c (epoch_of c.stream home.place) ]
]

-- The lowest write that the local disk has neither written nor failed.
abbrev pub next_local : PrimaryHistory → Option ℕ
next_local h = option_map (λ accepted. accepted.write.number) (find (λ accepted. is_waiting accepted.outcome) h.writes)

-- Released: the local disk has written or failed it, and its epoch is acknowledged or it is alone.
abbrev pub is_released : PrimaryHistory → Accepted → Bool
is_released h accepted = not (is_waiting accepted.outcome) && (is_confirmed h accepted || is_alone h accepted)

-- the transfer log: the writes that are not released
abbrev pub unreleased : PrimaryHistory → List Accepted
unreleased h = filter (λ accepted. not (is_released h accepted)) h.writes

-- the number of the first write that is not released
abbrev pub first_unreleased : PrimaryHistory → Option ℕ
first_unreleased h = option_map (λ accepted. accepted.write.number) (find (λ accepted. not (is_released h accepted)) h.writes)

-- the accepted writes that are neither completed nor failed
abbrev pub open_writes : PrimaryHistory → List Accepted
open_writes h = filter (is_open h) h.writes

-- the write's block at this offset reached the local disk
abbrev pub offset_reached : LocalOutcome → ℕ → Bool
offset_reached Waiting offset = false
offset_reached OnDisk offset = true
offset_reached (Failed offsets) offset = list_any (λ k. k == offset) offsets

-- the blocks of a write that reached the local disk, as a layer
abbrev pub local_layer : Accepted → Layer
local_layer accepted = record { first = accepted.write.first; contents = accepted.write.contents; laid = offset_reached accepted.outcome }

-- the local disk: the accepted writes, as far as they reached it, over the opening contents
abbrev pub local_map : PrimaryHistory → BlockMap
local_map h = overlay h.opening_map (map local_layer h.writes)

-- the list with this number in it, without a second copy
abbrev pub insert_once : ℕ → List ℕ → List ℕ
insert_once n ns = if list_any (λ m. m == n) ns then ns else n ∷ ns

-- the extents of these writes, each once
abbrev pub active_extents_of : List Accepted → List ℕ
active_extents_of [] = []
active_extents_of (accepted ∷ rest) = insert_once (extent_of accepted.write.first) (active_extents_of rest)

-- The active extents: those of the unreleased writes (DRBD User's Guide, "The activity log").
abbrev pub active_extents : PrimaryHistory → List ℕ
active_extents h = active_extents_of (unreleased h)

-- Resync.

-- the item begins a resync
abbrev pub is_sync_start : StreamItem → Bool
is_sync_start (SyncUuidItem word) = true
is_sync_start _ = false

-- the item ends a resync
abbrev pub is_sync_end : StreamItem → Bool
is_sync_end (UuidsItem tuple) = true
is_sync_end _ = false

-- the item is a block of a resync
abbrev pub is_resync : StreamItem → Bool
is_resync (ResyncItem block contents) = true
is_resync _ = false

-- A stream is in a resync once it has its SYNC_UUID and until it has its closing UUIDS.
abbrev pub in_resync : List StreamItem → Bool
in_resync items = list_any is_sync_start items && not (list_any is_sync_end items)

-- a resync runs on this connection, from this node
abbrev pub resync_runs : PrimaryConnection → Bool
resync_runs c = is_established c && in_resync c.stream

-- the items of the resync that the peer has not acknowledged
abbrev pub under_way : PrimaryConnection → List (ℕ × StreamItem)
under_way c = filter (λ entry. is_resync entry.1 && not (was_resynced c entry.0 entry.1)) (placed c.stream)

-- the marked blocks of the device, rising
abbrev pub marked_blocks : PrimaryHistory → List ℕ
marked_blocks h = filter h.marks (below h.settings.blocks)

-- the lowest marked block that no open write covers
abbrev pub free_block : PrimaryHistory → Option ℕ
free_block h = find (λ block. not (list_any (λ accepted. covers accepted.write block) (open_writes h))) (marked_blocks h)
