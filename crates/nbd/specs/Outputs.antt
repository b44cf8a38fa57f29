-- What a connection puts out, as contracts see it.
use Rattle.std.specs.Prelude.{ℕ, List}
use Rattle.nbd.specs.Requested.{Requested}

-- the bytes to send back and the requests to serve, of the connection of this number
pub record OutputState : Type 0 where
  pub of : ℕ
  pub bytes : List ℕ
  pub requests : List Requested

-- bytes for the client of the connection of this number
pub record SayingsState : Type 0 where
  pub of : ℕ
  pub bytes : List ℕ
