-- The fields of a primary as plain values, and their invariant.
use Rattle.std.specs.Prelude.{ℕ, ◌≡◌, ◌<◌, ◌≤◌, Bool, List, ◌∷◌, length, Option, Some, None, option_map, false, []}
use Rattle.std.specs.List.{AllByRecursion}
use Rattle.blocks.specs.declared.settings.Settings.{Settings}
use Rattle.blocks.specs.declared.tuple.Tuple.{Tuple}
use Rattle.blocks.specs.SettingsRange.{IsInRange}
use Rattle.model.specs.Stream.{StreamItem}
use Rattle.overlap.specs.Holdings.{Holding, holding}
use Rattle.primary_protocol.specs.Core as core
use Rattle.primary_protocol.specs.Core.{EndState, PrimaryState}
use Rattle.primary_core.specs.Kept.{IsSound, IsWriter, owing}
use Rattle.resync.specs.declared.under_way.UnderWay.{UnderWay}
use Rattle.primary_core.specs.declared.connection.Connection.{Connection}
use Rattle.primary_core.specs.declared.state.PrimaryCore.TheInside.{Inside}

-- A primary; which entries are confirmed, by number; how many more items may come to its stream, and how many to the
-- log, without new memory.
pub record CoreState : Type 0 where
  pub state : PrimaryState
  pub confirmed : List Bool
  pub stream_room : ℕ
  pub log_room : ℕ

-- the block under way
abbrev pub way_of : UnderWay → core.UnderWay
way_of w = record { block = w.block.0; place = w.place; epoch = w.epoch }

-- an open connection
abbrev pub end_of : Connection → EndState
end_of c = record {
  sync = c.sync;
  loss = c.loss;
  hello = c.handshake.own;
  hello_received = c.handshake.hello_received;
  hello_sent = c.handshake.hello_sent;
  unsent = c.outbox.items;
  resync = c.resync.goes_on;
  under_way = option_map way_of c.resync.under_way;
}

-- whether a resync is running at an end, if one is open
abbrev pub resync_in : Option EndState → Bool
resync_in None = false
resync_in (Some e) = e.resync

-- the items of an end that were not sent, if one is open
abbrev pub items_in : Option EndState → List StreamItem
items_in None = []
items_in (Some e) = e.unsent

-- the block under way of an end, if one is open
abbrev pub way_in : Option EndState → Option core.UnderWay
way_in None = None
way_in (Some e) = e.under_way

-- the intervals of the writes, with that of the block under way
abbrev pub held_with : Option UnderWay → List Holding → List Holding
held_with None held = held
held_with (Some w) held = holding 0 w.block.0 1 ∷ held

-- the block under way of a connection, if one is open
abbrev pub way_at : Option Connection → Option UnderWay
way_at None = None
way_at (Some c) = c.resync.under_way

-- for how many more items a connection has room, if one is open
abbrev pub room_at : Option Connection → ℕ
room_at None = 0
room_at (Some c) = c.outbox.room

-- the fields as plain values
abbrev pub state_of : Inside → PrimaryState
state_of c = record {
  settings = c.settings;
  tuple = c.generations.tuple;
  peer = c.peer;
  connections = c.connections;
  log = c.log.state;
  entries = c.entries.items;
  marks = c.marks;
  held = held_with (way_at c.connection) c.held;
  activity = c.activity;
  end = option_map end_of c.connection;
}

-- the fields as plain values, with the room for more
abbrev pub core_of : Inside → CoreState
core_of c = record { state = state_of c; confirmed = c.confirmed.items; stream_room = room_at c.connection; log_room = c.log.spare }

-- The state is sound, only accepted writes have intervals beside the block under way, each entry is confirmed or not,
-- and there is room for what may come to the stream without memory.
pub record IsCore (c : Inside) : Type 0 where
  pub sound : IsSound (state_of c)
  pub writers : AllByRecursion (IsWriter c.log.state.accepted) c.held
  pub flagged : c.confirmed.len ≡ c.entries.len
  pub room : owing None (state_of c).end c.log.state ≤ room_at c.connection

-- a primary may begin with these: the settings are in their ranges, each block has its mark or none, and the data have
-- a generation
pub record CanBegin (settings : Settings) (tuple : Tuple) (marks : List Bool) : Type 0 where
  pub in_range : IsInRange settings
  pub size : length marks ≡ settings.blocks
  pub generation : 0 < tuple.current
