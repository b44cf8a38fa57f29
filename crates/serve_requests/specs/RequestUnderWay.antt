-- A request whose writes were begun.
use Rattle.std.specs.Prelude.{List}
use Rattle.nbd.specs.Requested.{Requested}
use Rattle.session_api.specs.Begun.{BegunState}

-- the request, and the writes that were begun for it
pub record UnderWayState : Type 0 where
  pub request : Requested
  pub begun : List BegunState
