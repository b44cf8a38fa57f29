-- A resync at its source, and the block that it has under way.
use Rattle.std.specs.Prelude.{ℕ, ◌==◌, ◌&&◌, Bool, false, Option, None, Some}
use Rattle.resync.specs.declared.under_way.UnderWay.{UnderWay}

-- Whether a resync is running, and the block that it has under way.
pub record ResyncState : Type 0 where
  pub goes_on : Bool
  pub under_way : Option UnderWay

-- no resync is running
abbrev pub idle : ResyncState
idle = record { goes_on = false; under_way = None }

-- this block is under way, at this place
abbrev pub is_way : ℕ → ℕ → Option UnderWay → Bool
is_way block place None = false
is_way block place (Some way) = (way.block.0 == block) && (way.place == place)

-- this block is under way, at any place
abbrev pub is_block : ℕ → Option UnderWay → Bool
is_block block None = false
is_block block (Some way) = way.block.0 == block

-- the block under way is of this epoch
abbrev pub is_in_epoch : ℕ → Option UnderWay → Bool
is_in_epoch epoch None = false
is_in_epoch epoch (Some way) = way.epoch == epoch
