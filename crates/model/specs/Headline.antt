-- What administrators rely on, stated of a primary's and a secondary's history. Nothing is proved here.
use Rattle.std.specs.Prelude.{ℕ, suc, ◌≡◌, ◌<◌, ◌≤◌, nat_lt, Bool, true, false, ◌&&◌, ◌||◌, ◌⊎◌, List, length, take, map, Some, slice_get, Ok, IsTrue}
use Rattle.std.specs.List.{list_any}
use Rattle.blocks.specs.declared.tuple.Tuple.{Tuple}
use Rattle.blocks.specs.declared.settings.Protocol.{Protocol}
use Rattle.blocks.specs.declared.settings.Protocol.TheVariants as protocol
use Rattle.model.specs.Contents.{BlockMap, Write, covers}
use Rattle.model.specs.Stream.{StreamItem, WriteItem, contents_of, IsLawful, IsBeginning, IsClosedAt, is_in, is_whole}
use Rattle.model.specs.Frames.{Received}
use Rattle.model.specs.Primary.{Completion, Linked, PrimaryConnection, PrimaryHistory, primary_connection, primary_connection_at, is_established, frames_due}
use Rattle.model.specs.Primary.{items_sent, local_map, unreleased}
use Rattle.model.specs.Primary.{active_extents}
use Rattle.model.specs.Secondary.{SecondaryConnection, SecondaryHistory, secondary_connection_at, items_taken, map_of, secondary_map, answers_due}
use Rattle.model.specs.Pair.{same_block}

-- the frames that the primary pushed on a connection, as the secondary reads them
abbrev pub pushed_by : PrimaryHistory → PrimaryConnection → List Received
pushed_by p c = map (λ packet. Ok packet) (take c.pushed (frames_due p.settings c))

-- the frames that the secondary pushed on a connection, as the primary reads them
abbrev pub pushed_back_by : SecondaryHistory → SecondaryConnection → List Received
pushed_back_by s d = map (λ packet. Ok packet) (take d.pushed (answers_due s.settings d))

-- The nodes are joined: on each connection, by its number and in both directions, the frames that one end took are a
-- beginning of those that the other end pushed. A node that never opened the connection pushed and took nothing on it.
pub record IsJoined (p : PrimaryHistory) (s : SecondaryHistory) : Type 0 where
  pub out : (number : ℕ) → IsBeginning (secondary_connection_at s number).taken (pushed_by p (primary_connection_at p number))
  pub back : (number : ℕ) → IsBeginning (primary_connection_at p number).taken (pushed_back_by s (secondary_connection_at s number))

-- First clause: on each connection the items that the secondary took are a beginning of those that the primary sent;
-- the primary's stream is lawful; and each write has one place.
pub record TakesABeginning (p : PrimaryHistory) (s : SecondaryHistory) : Type 0 where
  pub taken : (number : ℕ) → IsBeginning (items_taken (secondary_connection_at s number))
      (take (items_sent (primary_connection_at p number)) (primary_connection_at p number).stream)
  pub lawful : (k : ℕ) (c : PrimaryConnection) → slice_get p.connections k ≡ Some c → IsLawful p.settings.max_epoch c.stream
  pub once : (k l place other : ℕ) (c d : PrimaryConnection) (a b : Write) → slice_get p.connections k ≡ Some c → slice_get p.connections l ≡ Some d
      → slice_get c.stream place ≡ Some (WriteItem a) → slice_get d.stream other ≡ Some (WriteItem b) → a.number ≡ b.number → (k ≡ l) × (place ≡ other)

-- A closed connection of the primary does not change.
pub record StaysClosed (p later : PrimaryHistory) : Type 0 where
  pub same : (k : ℕ) (c : PrimaryConnection) → slice_get p.connections k ≡ Some c → c.closed ≡ true → slice_get later.connections k ≡ Some c

-- a closed connection of the secondary changes only in what is still applied, failed or dropped
pub record StaysClosedToo (s later : SecondaryHistory) : Type 0 where
  pub same : (k : ℕ) (c : SecondaryConnection) → slice_get s.connections k ≡ Some c → c.closed ≡ true
      → (d : SecondaryConnection) × (slice_get later.connections k ≡ Some d) × (d ≡ record c { applied = d.applied; gone = d.gone })

-- Second clause: the secondary's disk holds every write of earlier epochs and part of one. On each connection the
-- applied part is closed at some epoch and has only blocks of items that were taken. It lies over what the disk held
-- when the connection opened.
pub record HoldsEarlierEpochs (s : SecondaryHistory) : Type 0 where
  pub closed_at : (k : ℕ) (d : SecondaryConnection) → slice_get s.connections k ≡ Some d → (epoch : ℕ) × IsClosedAt epoch (items_taken d) d.applied
  pub taken : (k place offset : ℕ) (d : SecondaryConnection) → slice_get s.connections k ≡ Some d → is_in d.applied place offset ≡ true
      → (item : StreamItem) × (slice_get (items_taken d) place ≡ Some item) × (offset < length (contents_of item))
  pub goes_on : (k block : ℕ) (d e : SecondaryConnection) → slice_get s.connections k ≡ Some d → slice_get s.connections (suc k) ≡ Some e
      → e.base block ≡ map_of d block
  pub begins : (block : ℕ) (d : SecondaryConnection) → slice_get s.connections 0 ≡ Some d → d.base block ≡ s.opening_map block

-- What a completion over the link promises: under A the write's item was sent, under B the secondary took it, under C
-- all of it is on the secondary's disk (DRBD User's Guide, "Replication modes").
abbrev pub Promise : Protocol → PrimaryConnection → SecondaryConnection → Write → ℕ → Type 0
Promise protocol.A c d write place = place < items_sent c
Promise protocol.B c d write place = place < length (items_taken d)
Promise protocol.C c d write place = is_whole d.applied place (WriteItem write) ≡ true

-- Third clause: each write that was completed over the link has its item in a stream, and what its protocol promises.
pub record KeepsPromises (p : PrimaryHistory) (s : SecondaryHistory) : Type 0 where
  pub promised : (n k place : ℕ) (entry : Completion) → slice_get p.journal n ≡ Some entry → entry.kind ≡ Linked
      → entry.home ≡ Some (record { index = k; place = place })
      → Promise p.settings.protocol (primary_connection_at p (suc k)) (secondary_connection_at s (suc k)) entry.write place
  pub home : (n : ℕ) (entry : Completion) → slice_get p.journal n ≡ Some entry → entry.kind ≡ Linked
      → (k : ℕ) × (place : ℕ) × (c : PrimaryConnection) × (entry.home ≡ Some (record { index = k; place = place })) × (slice_get p.connections k ≡ Some c)
      × (slice_get c.stream place ≡ Some (WriteItem entry.write))

-- the block is marked; past the device's end none is
abbrev pub is_marked : PrimaryHistory → ℕ → Bool
is_marked p block = nat_lt block p.settings.blocks && p.marks block

-- These marks cover two disks: every block on which they differ is marked.
abbrev pub Cover : (ℕ → Bool) → BlockMap → BlockMap → Type 0
Cover marks local peer = (block : ℕ) → same_block (local block) (peer block) ≡ false → marks block ≡ true

-- a block of the device is marked at the opening
abbrev pub opening_marked : PrimaryHistory → ℕ → Bool
opening_marked p block = nat_lt block p.settings.blocks && p.opening_marks block

-- Grounded: each block that a resync copied was as the local disk had it; and some connection's stream has begun, or the opening
-- marks cover the opening disks.
abbrev pub IsGrounded : PrimaryHistory → SecondaryHistory → Type 0
IsGrounded p s = IsTrue p.faithful × ((list_any (λ c. c.begun) p.connections ≡ true) ⊎ Cover (opening_marked p) p.opening_map s.opening_map)

-- Fourth clause, of a grounded history: while no connection is established, every block on which the disks differ is
-- marked.
abbrev pub MarksDifferences : PrimaryHistory → SecondaryHistory → Type 0
MarksDifferences p s = IsGrounded p s → is_established (primary_connection p) ≡ false → Cover (is_marked p) (local_map p) (secondary_map s)

-- the block is marked, or an unreleased write covers it
abbrev pub is_covered : PrimaryHistory → ℕ → Bool
is_covered p block = is_marked p block || list_any (λ accepted. covers accepted.write block) (unreleased p)

-- Beside the four clauses, with or without a connection: the unreleased writes lie in at most as many extents as there
-- are slots, and in a grounded history each block on which the disks differ is marked or covered by one of them.
pub record CoversDifferences (p : PrimaryHistory) (s : SecondaryHistory) : Type 0 where
  pub covered : IsGrounded p s → Cover (is_covered p) (local_map p) (secondary_map s)
  pub active : length (active_extents p) ≤ p.settings.slots

-- the four clauses
pub record Headline (p : PrimaryHistory) (s : SecondaryHistory) : Type 0 where
  pub beginning : TakesABeginning p s
  pub epochs : HoldsEarlierEpochs s
  pub promises : KeepsPromises p s
  pub marks : MarksDifferences p s

-- Honest identifiers of an opening: the primary has data, and if the peer's current identifier is the primary's current
-- or bitmap identifier, the disks differ only in marked blocks.
pub record IsHonest (own peer : Tuple) (marks : ℕ → Bool) (local other : BlockMap) : Type 0 where
  pub own_data : 0 < own.current
  pub same_current : peer.current ≡ own.current → Cover marks local other
  pub from_bitmap : 0 < own.bitmap → peer.current ≡ own.bitmap → Cover marks local other
