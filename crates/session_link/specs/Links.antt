-- The directions of a session's link, and what a session that nobody starts began with.
use Rattle.std.specs.Prelude.{◌≡◌, false, None}
use Rattle.blocks.specs.SettingsRange.{standard}
use Rattle.blocks.specs.declared.tuple.Tuple.{Tuple}
use Rattle.model.specs.Theorems.{Opening}
use Rattle.endpoint.specs.Calls.{IsNewIn, IsNewOut}
use Rattle.thread_link.specs.Inward.{InwardState, taking}
use Rattle.thread_link.specs.Names.{Direction, LinkName, row_of}
use Rattle.thread_link.specs.Outward.{OutwardState, sending}

-- both ends of a direction of this link, on its row, of which nothing was used yet
pub record AreEndsOf (link : LinkName) (direction : Direction) (ends : OutwardState × InwardState) : Type 0 where
  pub out_row : ends.0.row ≡ row_of link direction
  pub in_row : ends.1.row ≡ row_of link direction
  pub out : IsNewOut (sending ends.0)
  pub inn : IsNewIn (taking ends.1)

-- the identifiers of a disk without data
abbrev pub no_tuple : Tuple
no_tuple = record { current = 0; bitmap = 0; first_historical = 0; second_historical = 0 }

-- an opening of no session
abbrev pub no_opening : Opening
no_opening = record {
  settings = standard;
  peer_settings = standard;
  local = λ block. None;
  peer = λ block. None;
  own = no_tuple;
  peer_tuple = no_tuple;
  marks = λ block. false;
}
