-- The link of a session.
use Rattle.std.specs.Prelude.{◌≡◌}
use Rattle.endpoint.specs.Calls.{IsNewIn, IsNewOut}
use Rattle.thread_link.specs.Inward.{InwardState, taking}
use Rattle.thread_link.specs.Outward.{OutwardState, sending}

-- both ends of a direction, on one row, of which nothing was used yet
pub record IsNewDirection (ends : OutwardState × InwardState) : Type 0 where
  pub row : ends.1.row ≡ ends.0.row
  pub out : IsNewOut (sending ends.0)
  pub inn : IsNewIn (taking ends.1)
