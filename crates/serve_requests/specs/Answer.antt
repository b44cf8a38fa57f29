-- An answer as contracts see it.
use Rattle.std.specs.Prelude.{Bool, ℕ, List, Option}
use Rattle.nbd.specs.declared.errno.Errno.{Errno}
use Rattle.serve_requests.specs.Stored.{StoredState}

-- the number of the connection that it goes to, why its request failed, if it did, the bytes of the reply, what the request has of
-- stable storage; whether these bytes begin the reply and whether they end it, so that no other reply may stand between; and whether the
-- reply lacks bytes, so that the connection has to be closed
pub record AnswerState : Type 0 where
  pub of : ℕ
  pub error : Option Errno
  pub spelled : List ℕ
  pub stored : Option StoredState
  pub begins : Bool
  pub ends : Bool
  pub is_broken : Bool
