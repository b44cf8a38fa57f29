-- A node whose callers were told all of a log, on the way of one history that it has.
use Rattle.std.specs.Prelude.{List, Option}
use Rattle.kept_nodes.specs.Kept.{KeptPrimaryState}
use Rattle.model.specs.Primary.{PrimaryHistory}
use Rattle.model.specs.Theorems.{Opening}
use Rattle.primary.specs.State.{PrimaryView}
use Rattle.primary_protocol.specs.Steps.{IsReached}
use Rattle.session_nodes.specs.Primaries.{PrimaryBegan, PrimaryHas}
use Rattle.told.specs.declared.entry.Told.{Told}
use Rattle.told.specs.Log.{AreTold}
use Rattle.told.specs.Stands.{AllReadOwn, Stands}

-- a node, with its metadata, and what its callers were told
pub record ToldState (F : Type 0) : Type 0 where
  pub kept : KeptPrimaryState F
  pub log : List Told

-- Invariant: the node has a history that began with this opening, and on the way to which all of the log was told, and nothing else.
pub record IsTold (opening : Option Opening) (log : List Told) (v : PrimaryView) : Type 0 where
  pub start : PrimaryHistory
  pub reached : IsReached start
  pub began : PrimaryBegan opening start
  pub history : PrimaryHistory
  pub has : PrimaryHas v history
  pub told : AreTold v.faithful log start history

-- The node has a history that began with the opening, in which all of the log stands, and in which each read gives a caller its own.
pub record AllStand (opening : Option Opening) (log : List Told) (v : PrimaryView) : Type 0 where
  pub start : PrimaryHistory
  pub began : PrimaryBegan opening start
  pub history : PrimaryHistory
  pub has : PrimaryHas v history
  pub stands : Stands v.faithful start log history
  pub own : AllReadOwn v.faithful start log history
