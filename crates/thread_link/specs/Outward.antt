-- The sending end of a link between threads.
use Rattle.std.specs.Prelude.{ℕ, ◌≢◌, ◌≤◌, List, [], ◌∷◌, ◌++◌, Option, None, Some}
use Rattle.std.specs.List.{AllByRecursion}
use Rattle.atomic_table.specs.Seated.{TableId}
use Rattle.link.specs.Ends.{OutEnd}
use Rattle.link.specs.Past.{Past, Went, ended}
use Rattle.thread_link.specs.Carried.{IsCarried, IsRising, past_on}
use Rattle.thread_link.specs.Pieces.{EndState, PieceState, bytes_on}

-- The end's row, and the pieces that it has pushed. The frames sent on the present connection, that one's number, the
-- earlier connections, and the frame that was offered in part.
pub record OutwardState : Type 0 where
  pub row : TableId
  pub pieces : List PieceState
  pub sent : List (List ℕ)
  pub number : ℕ
  pub past : List Past
  pub partly : Option (List ℕ)

-- the first frame of a list, if there is one
abbrev pub first_of : List (List ℕ) → Option (List ℕ)
first_of [] = None
first_of (frame ∷ frames) = Some frame

-- the view of an end, from its parts; the frame offered in part is a list of one at most
abbrev pub outward_state : EndState → Went → ℕ → List (List ℕ) → OutwardState
outward_state pieces went number part = record {
  row = pieces.row;
  pieces = pieces.pieces;
  sent = went.frames;
  number = number;
  past = went.past;
  partly = first_of part;
}

-- the end as whoever sends frames through it sees it
abbrev pub sending : OutwardState → OutEnd
sending s = record {
  sent = s.sent;
  number = s.number;
  past = s.past;
  partly = s.partly;
  waiting = None;
  room = None;
}

-- an end on the first connection of a row, through which nothing went
abbrev pub unused_out : TableId → OutwardState
unused_out row = record { row = row; pieces = []; sent = []; number = 1; past = []; partly = None }

-- an end after it sent this frame; the pieces pushed are those of `now`
abbrev pub with_sent : List ℕ → OutwardState → OutwardState → OutwardState
with_sent frame now s = record s { pieces = now.pieces; sent = s.sent ++ frame ∷ []; partly = None }

-- an end that was offered this frame and did not push it; the pieces pushed are those of `now`
abbrev pub with_part : List ℕ → OutwardState → OutwardState → OutwardState
with_part frame now s = record s { pieces = now.pieces; partly = Some frame }

-- an end on the next connection, which has this number
abbrev pub sending_anew : ℕ → OutwardState → OutwardState
sending_anew number s = record s { sent = []; number = number; past = ended s.number s.sent s.past; partly = None }

-- What was pushed: the frames sent, on the present connection and on each other one. No piece is of a later connection than the
-- present one.
pub record Sends (s : OutwardState) : Type 0 where
  pub present : IsCarried (bytes_on s.number s.pieces) s.sent []
  pub before : (n : ℕ) → n ≢ s.number → IsCarried (bytes_on n s.pieces) (past_on n s.past) []
  pub highest : AllByRecursion (λ piece. piece.number ≤ s.number) s.pieces
  pub rising : IsRising s.past s.number
