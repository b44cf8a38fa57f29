-- The fields of a secondary as plain values, and their invariant.
use Rattle.std.specs.Prelude.{ℕ, suc, ◌≡◌, ◌+◌, ◌<◌, ◌≤◌, Bool, true, length, option_map, IfSome}
use Rattle.std.specs.List.{AllByRecursion}
use Rattle.blocks.specs.SettingsRange.{IsInRange}
use Rattle.model.specs.Stream.{StreamItem, first_of, contents_of}
use Rattle.blocks.specs.declared.settings.Settings.{Settings}
use Rattle.peerdisk.specs.Pending.{PeerDiskState, Pending}
use Rattle.secondary_protocol.specs.Core.{Intake, SecondaryState}
use Rattle.secondary_core.specs.Connections.{HasRoom, IsServed, end_of}
use Rattle.secondary_core.specs.declared.state.SecondaryCore.TheInside.{Inside}

-- a secondary, and whether there is room for what one frame may need
pub record CoreState : Type 0 where
  pub state : SecondaryState
  pub is_ready : Bool

-- the fields as plain values
abbrev pub core_of : Inside → CoreState
core_of c = record {
  state = record {
    settings = c.settings;
    tuple = c.generations.tuple;
    consistent = c.is_consistent;
    number = c.number;
    intake = c.inbox;
    pending = c.disk.pending;
    items_applied = c.items_applied;
    failed = c.failed;
    end = option_map end_of c.connection;
  };
  is_ready = c.is_ready;
}

-- A pending item is one of those that were taken, at a device of `size` blocks.
pub record IsOf (size : ℕ) (taken : Intake) (p : Pending StreamItem) : Type 0 where
  pub place : p.place < taken.places
  pub epoch : p.epoch ≤ suc taken.barriers
  pub inside : first_of p.item + length (contents_of p.item) ≤ size

-- The blocks are the device's; the disk keeps as many items as the settings say, and has no more; each pending item was
-- taken, and so was each applied one.
pub record IsPending (settings : Settings) (inbox : Intake) (disk : PeerDiskState StreamItem) (items_applied : ℕ) : Type 0 where
  pub limit : disk.limit ≡ settings.pending
  pub size : length inbox.blocks ≡ settings.blocks
  pub few : length disk.pending ≤ settings.pending
  pub pending : AllByRecursion (IsOf settings.blocks inbox) disk.pending
  pub counted : items_applied + length disk.pending ≤ inbox.places

-- The settings are in their ranges; the pending items are as they say; the pending items and the barriers that were
-- taken are served on an open connection; and there is room for what one frame may need, if that was made.
pub record IsCore (c : Inside) : Type 0 where
  pub in_range : IsInRange c.settings
  pub pending : IsPending c.settings c.inbox c.disk c.items_applied
  pub served : IfSome c.connection (λ x. IsServed c.disk.pending c.inbox.barriers x.outbox)
  pub place : c.is_ready ≡ true → c.inbox.places < c.disk.reach
  pub room : c.is_ready ≡ true → IfSome c.connection (λ x. HasRoom c.disk.pending x.outbox)
