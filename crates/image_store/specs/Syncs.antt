-- Syncs of an image.
use Rattle.std.specs.Prelude.{ℕ, List}
use Rattle.image_store.specs.declared.sync_handle.Disk.{Disk}

-- the path of the image that a handle syncs, and whose it is
pub record SyncHandleState : Type 0 where
  pub path : List ℕ
  pub disk : Disk

-- which image was synced, and its caller's number for the sync, which the caller had before
pub record SyncedState : Type 0 where
  pub disk : Disk
  pub round : ℕ
