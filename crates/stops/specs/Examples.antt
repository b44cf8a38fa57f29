-- Examples in which the premises of the laws are met: sessions that stop, one after the other; an old primary that comes back to a
-- new one that ran alone; and events that cover blocks. Blocks have one byte here, so all of it computes.
use Rattle.std.specs.Prelude.{ℕ, ◌≡◌, ◌==◌, true, false, ◌||◌, List, [], ◌∷◌, ◌++◌, Some, Ok, option_map, slice_get}
use Rattle.blocks.specs.Identifiers.{decision}
use Rattle.blocks.specs.SettingsRange.{standard}
use Rattle.blocks.specs.declared.outcome.Decision.TheVariants.{BitmapSync, FullSync}
use Rattle.blocks.specs.declared.settings.Protocol.TheVariants as protocol
use Rattle.laws.specs.Examples.{met, new_pair}
use Rattle.model.specs.Contents.{BlockMap}
use Rattle.model.specs.Frames.{ProtocolFrame, SizesFrame, UuidsFrame}
use Rattle.model.specs.Headline.{IsGrounded, is_covered}
use Rattle.model.specs.LocalRuns.{PrimaryEvent, Opens, Submits, WritesLocally, Sends, Takes, primary_after, primary_run}
use Rattle.model.specs.Pair.{Event, LocalEvent, SendEvent, ReceiveEvent, PeerEvent, AckOutEvent, AckInEvent, ResyncEvent, ClosePrimaryEvent}
use Rattle.model.specs.Pair.{CloseSecondaryEvent, differing, marked}
use Rattle.model.specs.ResyncRows.{first_copied}
use Rattle.model.specs.Rows.{after, connect, fill, words}
use Rattle.model.specs.Secondary.{secondary_connection, pending}
use Rattle.model.specs.Settlement.{is_at_rest}
use Rattle.model.specs.Stream.{WriteItem, ResyncItem}
use Rattle.model.specs.Theorems.{Opening, IsSoundOpening, pair_at, primary_at}
use Rattle.stops.specs.Returns.{SessionAlone, AllRanAlone, disk_after, end_of, marks_after, unmarked}
use Rattle.stops.specs.Stops.{IsChain, IsLeftBy, IsUnparted, unknown, primary_of, secondary_of, done_of}

-- a disk of blocks of one byte each
abbrev pub of_bytes : List ℕ → BlockMap
of_bytes bytes block = option_map (λ byte. byte ∷ []) (slice_get bytes block)

-- A session stops at the moment to which these events of a pair lead, and leaves the next opening. The second events finish what
-- the peer's disk had under way.
pub record IsLeftAt (o next : Opening) (events done : List Event) : Type 0 where
  pub left : IsLeftBy o next
  pub primary : primary_of o left.stopped ≡ (after events (pair_at o)).primary
  pub secondary : secondary_of o left.stopped ≡ (after events (pair_at o)).secondary
  pub finished : done_of o left.stopped ≡ (after (events ++ done) (pair_at o)).secondary

-- The primary is killed amid writes: the local disk has the write of block 2, and the peer's has it under way; the local disk has
-- the write of block 5 under way, and it was not sent.
abbrev pub writing : List Event
writing = connect 5 7 ++ fill 2 1 170 ∷ LocalEvent 1 ∷ SendEvent ∷ ReceiveEvent ∷ fill 5 1 187 ∷ []

-- What was under way on a disk is neither the old bytes nor the new ones. The peer's disk keeps its identifiers.
abbrev pub amid_writes : Opening
amid_writes = record {
  settings = standard;
  peer_settings = standard;
  local = of_bytes (0 ∷ 0 ∷ 170 ∷ 0 ∷ 0 ∷ 99 ∷ 0 ∷ 0 ∷ []);
  peer = of_bytes (0 ∷ 0 ∷ 98 ∷ 0 ∷ 0 ∷ 0 ∷ 0 ∷ 0 ∷ []);
  own = words 7 1 0 0;
  peer_tuple = words 1 0 0 0;
  marks = λ block. (block == 2) || (block == 5);
}

-- The next session copies what is marked, and the secondary is killed in the middle: block 2 is copied, and the peer's disk has
-- block 5 under way.
abbrev pub copying_marked : List Event
copying_marked = connect 9 11 ++ first_copied ++ ResyncEvent ∷ SendEvent ∷ SendEvent ∷ ReceiveEvent ∷ ReceiveEvent ∷ []

-- The peer's disk is not consistent, so it comes back as unknown.
abbrev pub amid_a_resync : Opening
amid_a_resync = record {
  settings = standard;
  peer_settings = standard;
  local = of_bytes (0 ∷ 0 ∷ 170 ∷ 0 ∷ 0 ∷ 99 ∷ 0 ∷ 0 ∷ []);
  peer = of_bytes (0 ∷ 0 ∷ 170 ∷ 0 ∷ 0 ∷ 97 ∷ 0 ∷ 0 ∷ []);
  own = words 7 9 1 0;
  peer_tuple = unknown;
  marks = λ block. block == 5;
}

-- A block is copied, after a first item, or after the barrier that ended the epoch of the block before. There is a second
-- acknowledgement where there was a barrier.
abbrev pub copying : ℕ → List Event
copying place = ResyncEvent ∷ SendEvent ∷ SendEvent ∷ ReceiveEvent ∷ ReceiveEvent ∷ PeerEvent place ∷ AckOutEvent ∷ AckOutEvent ∷ AckInEvent ∷ AckInEvent ∷ []

-- The third session copies all blocks, and ends when both ends were closed and nothing is under way.
abbrev pub copying_all : List Event
copying_all =
    connect 13 15 ++ copying 1 ++ copying 3 ++ copying 5 ++ copying 7 ++ copying 9 ++ copying 11 ++ copying 13 ++ copying 15
    ++ SendEvent ∷ SendEvent ∷ ReceiveEvent ∷ ReceiveEvent ∷ AckOutEvent ∷ AckInEvent ∷ ClosePrimaryEvent ∷ CloseSecondaryEvent ∷ []

-- Both disks are the same, and nothing is marked.
abbrev pub at_rest : Opening
at_rest = record {
  settings = standard;
  peer_settings = standard;
  local = of_bytes (0 ∷ 0 ∷ 170 ∷ 0 ∷ 0 ∷ 99 ∷ 0 ∷ 0 ∷ []);
  peer = of_bytes (0 ∷ 0 ∷ 170 ∷ 0 ∷ 0 ∷ 99 ∷ 0 ∷ 0 ∷ []);
  own = words 15 7 13 9;
  peer_tuple = words 7 0 13 9;
  marks = λ block. false;
}

-- Three sessions that stop, one after the other, from a new pair on: what each leaves, what was under way then, what the disks
-- differ in, and what the next hello decides.
pub record SessionsAreLeft : Type 0 where
  pub opening : IsSoundOpening new_pair
  pub unparted : IsUnparted new_pair
  pub first : IsLeftAt new_pair amid_writes writing (PeerEvent 0 ∷ [])
  pub first_grounded : IsGrounded (after writing (pair_at new_pair)).primary (after writing (pair_at new_pair)).secondary
  pub first_pending : pending (secondary_connection (after writing (pair_at new_pair)).secondary)
      ≡ (0, WriteItem (record { number = 1; first = 2; contents = (170 ∷ []) ∷ [] })) ∷ []
  pub first_differs : differing (pair_at amid_writes) ≡ 2 ∷ 5 ∷ []
  pub second_decides : decision amid_writes.own amid_writes.peer_tuple ≡ Ok BitmapSync
  pub second : IsLeftAt amid_writes amid_a_resync copying_marked (PeerEvent 3 ∷ [])
  pub second_pending : pending (secondary_connection (after copying_marked (pair_at amid_writes)).secondary) ≡ (3, ResyncItem 5 (99 ∷ [])) ∷ []
  pub second_differs : differing (pair_at amid_a_resync) ≡ 5 ∷ []
  pub third_decides : decision amid_a_resync.own amid_a_resync.peer_tuple ≡ Ok FullSync
  pub third : IsLeftAt amid_a_resync at_rest copying_all []
  pub third_rests : is_at_rest (after copying_all (pair_at amid_a_resync)).primary (after copying_all (pair_at amid_a_resync)).secondary ≡ true
  pub third_differs : differing (pair_at at_rest) ≡ []
  pub next_decides : decision at_rest.own at_rest.peer_tuple ≡ Ok BitmapSync
  pub chain : IsChain new_pair (amid_writes ∷ amid_a_resync ∷ at_rest ∷ [])

-- After the kill amid writes the secondary's disk becomes the primary's. It runs two sessions alone: block 3 is written in the
-- first one, and as the second one stops, its disk has the write of block 6 under way.
abbrev pub first_alone : SessionAlone
first_alone = record {
  opening = record {
    settings = standard;
    peer_settings = standard;
    local = amid_writes.peer;
    peer = amid_writes.local;
    own = words 50 1 0 0;
    peer_tuple = unknown;
    marks = unmarked;
  };
  events = Submits 3 ((204 ∷ []) ∷ []) false ∷ WritesLocally 1 ∷ [];
  marks = λ block. block == 3;
  disk = of_bytes (0 ∷ 0 ∷ 98 ∷ 204 ∷ 0 ∷ 0 ∷ 0 ∷ 0 ∷ []);
}

-- the second one opens from what the first one left
abbrev pub second_alone : SessionAlone
second_alone = record {
  opening = record {
    settings = standard;
    peer_settings = standard;
    local = first_alone.disk;
    peer = amid_writes.local;
    own = words 50 1 0 0;
    peer_tuple = unknown;
    marks = first_alone.marks;
  };
  events = Submits 6 ((221 ∷ []) ∷ []) false ∷ [];
  marks = λ block. (block == 3) || (block == 6);
  disk = of_bytes (0 ∷ 0 ∷ 98 ∷ 204 ∷ 0 ∷ 0 ∷ 96 ∷ 0 ∷ []);
}

-- The old primary comes back with the identifiers that it had as it was killed.
abbrev pub returned : Opening
returned = record {
  settings = standard;
  peer_settings = standard;
  local = disk_after amid_writes.peer (first_alone ∷ second_alone ∷ []);
  peer = amid_writes.local;
  own = words 50 1 0 0;
  peer_tuple = words 1 0 0 0;
  marks = λ block. marks_after unmarked (first_alone ∷ second_alone ∷ []) block || amid_writes.marks block;
}

-- The two sessions ran alone, each covers a block, and the opening with the old primary is sound: the blocks on which the disks
-- differ are those that either had marked, and they are copied.
pub record ReturnIsMet : Type 0 where
  pub ran : AllRanAlone standard unmarked amid_writes.peer (first_alone ∷ second_alone ∷ [])
  pub first_covers : is_covered (end_of first_alone) 3 ≡ true
  pub second_covers : is_covered (end_of second_alone) 6 ≡ true
  pub sound : IsSoundOpening returned
  pub differs : differing (pair_at returned) ≡ 2 ∷ 3 ∷ 5 ∷ 6 ∷ []
  pub marks : marked (pair_at returned) ≡ 2 ∷ 3 ∷ 5 ∷ 6 ∷ []
  pub decides : decision returned.own returned.peer_tuple ≡ Ok BitmapSync

-- a primary by itself, before it takes the last frame of its peer's hello
abbrev pub greeting : List PrimaryEvent
greeting =
    Opens 13 15 false ∷ Sends true false ∷ Sends true false ∷ Sends true false ∷ Takes (Some (Ok (ProtocolFrame protocol.C))) false
    ∷ Takes (Some (Ok (SizesFrame 8))) false ∷ []

-- A submission covers its block, and the last frame of an unknown peer's hello covers each block: a full copy begins.
pub record GrowthIsMet : Type 0 where
  pub unwritten : is_covered (primary_run met (primary_at new_pair)) 2 ≡ false
  pub submitted : is_covered (primary_after (Submits 2 ((170 ∷ []) ∷ []) false) (primary_run met (primary_at new_pair))) 2 ≡ true
  pub unmet : is_covered (primary_run greeting (primary_at amid_a_resync)) 0 ≡ false
  pub begun : is_covered (primary_after (Takes (Some (Ok (UuidsFrame unknown))) false) (primary_run greeting (primary_at amid_a_resync))) 0 ≡ true
