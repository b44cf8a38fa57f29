-- That the images are on stable storage.
use Rattle.std.specs.Prelude.{Bool, true, ℕ, ◌≡◌, ◌<◌, Option, IfSome, is_some}
use Rattle.nbd.specs.Requested.{Requested}
use Rattle.serve_requests.specs.Ended.{asks_for_sync}

-- the last round of syncing that it does for, and whether it is so of the local image alone
pub record StoredState : Type 0 where
  pub round : ℕ
  pub is_alone : Bool

-- a round that began after this one was synced
abbrev pub IsLater : ℕ → StoredState → Type 0
IsLater round stored = round < stored.round

-- what a request that ended before a round has of stable storage: a later round, if it asks for any
pub record SuitsRequest (request : Requested) (round : ℕ) (stored : Option StoredState) : Type 0 where
  pub asked : asks_for_sync request ≡ true → is_some stored ≡ true
  pub later : IfSome stored (IsLater round)
