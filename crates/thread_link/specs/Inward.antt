-- The taking end of a link between threads.
use Rattle.std.specs.Prelude.{ℕ, ◌≡◌, ◌≢◌, ◌+◌, ◌<◌, ◌≤◌, Bool, true, false, nat_lt, if◌then◌else◌, List, [], ◌∷◌, ◌++◌, length, drop, Option, None, Some}
use Rattle.std.specs.List.{AllByRecursion}
use Rattle.atomic_table.specs.Seated.{TableId}
use Rattle.link.specs.Ends.{InEnd}
use Rattle.link.specs.Past.{Past, Went, ended}
use Rattle.thread_link.specs.Carried.{BeginsNoCut, IsCarried, IsRising, past_on, whole_length}
use Rattle.thread_link.specs.declared.rest.Kept.{Kept}
use Rattle.thread_link.specs.declared.rest.Kept.TheVariants.{Copied, Whole}
use Rattle.thread_link.specs.Pieces.{EndState, PieceState, bytes_if, bytes_on}

-- the bytes of a frame that came so far, and whether there is room for the longest one
pub record GatheredState : Type 0 where
  pub bytes : List ℕ
  pub is_ready : Bool

-- what a rest was made from
abbrev pub kept_piece : Kept → PieceState
kept_piece (Copied piece) = piece
kept_piece (Whole piece) = piece

-- a piece without its first bytes
abbrev pub behind : ℕ → PieceState → PieceState
behind used piece = record piece { bytes = drop used piece.bytes }

-- The bytes are no more than the frame has that begins with them, whose length is noted. A ready chunk has room for the
-- longest frame, of 131,104 bytes; in one that is not ready there are no bytes.
pub record IsGathered (bytes : List ℕ) (spare : ℕ) (is_ready : Bool) (whole : ℕ) : Type 0 where
  pub noted : whole ≡ whole_length bytes
  pub within : length bytes ≤ whole
  pub most : whole ≤ 131104
  pub room : is_ready ≡ true → 131104 ≤ length bytes + spare
  pub empty : is_ready ≡ false → bytes ≡ []

-- The end's row, and the pieces that it has popped. The frames taken on the present connection, that one's number, the
-- earlier connections, and whether there is room for the longest frame. What is in hand: the bytes of the next frame
-- that came so far, and the remaining bytes of the last piece.
pub record InwardState : Type 0 where
  pub row : TableId
  pub pieces : List PieceState
  pub taken : List (List ℕ)
  pub number : ℕ
  pub past : List Past
  pub is_ready : Bool
  pub front : List ℕ
  pub rest : Option PieceState

-- the view of an end, from its parts
abbrev pub inward_state : EndState → Went → ℕ → GatheredState → Option PieceState → InwardState
inward_state pieces went number gathered rest = record {
  row = pieces.row;
  pieces = pieces.pieces;
  taken = went.frames;
  number = number;
  past = went.past;
  is_ready = gathered.is_ready;
  front = gathered.bytes;
  rest = rest;
}

-- the end as whoever takes frames through it sees it
abbrev pub taking : InwardState → InEnd
taking s = record {
  taken = s.taken;
  number = s.number;
  past = s.past;
  is_ready = s.is_ready;
  queued = None;
  capacity = None;
}

-- the remaining bytes of the last piece, if it is of this connection
abbrev pub rest_on : ℕ → Option PieceState → List ℕ
rest_on number None = []
rest_on number (Some piece) = bytes_if number piece

-- the bytes of the present connection that are in hand
abbrev pub in_hand : InwardState → List ℕ
in_hand s = s.front ++ rest_on s.number s.rest

-- whether the piece in hand is of a later connection
abbrev pub is_later : ℕ → Option PieceState → Bool
is_later number None = false
is_later number (Some piece) = nat_lt number piece.number

-- the piece in hand, if it is not of an earlier connection
abbrev pub not_before : ℕ → Option PieceState → Option PieceState
not_before number None = None
not_before number (Some piece) = if nat_lt piece.number number then None else Some piece

-- the piece in hand, if it is of a later connection
abbrev pub later_of : ℕ → Option PieceState → List PieceState
later_of number None = []
later_of number (Some piece) = if nat_lt number piece.number then piece ∷ [] else []

-- an end on the first connection of a row, through which nothing came
abbrev pub unused_in : TableId → InwardState
unused_in row = record { row = row; pieces = []; taken = []; number = 1; past = []; is_ready = true; front = []; rest = None }

-- an end after it took this frame; the pieces popped, what is in hand and whether there is room for the longest frame
-- are those of `now`
abbrev pub with_taken : List ℕ → InwardState → InwardState → InwardState
with_taken frame now s = record s { pieces = now.pieces; taken = s.taken ++ frame ∷ []; is_ready = now.is_ready; front = now.front; rest = now.rest }

-- an end that took no frame; the pieces popped and what is in hand are those of `now`
abbrev pub with_popped : InwardState → InwardState → InwardState
with_popped now s = record s { pieces = now.pieces; front = now.front; rest = now.rest }

-- an end on the next connection, which has this number
abbrev pub taking_anew : ℕ → InwardState → InwardState
taking_anew number s = record s {
  taken = [];
  number = number;
  past = ended s.number s.taken s.past;
  front = [];
  rest = not_before number s.rest;
}

-- What was popped: on the present connection the frames taken and then what is in hand, on each other one the frames
-- taken and then what was dropped. At most the last piece is of a later connection than the present one, and it is in
-- hand as a whole.
pub record Takes (s : InwardState) : Type 0 where
  pub present : IsCarried (bytes_on s.number s.pieces) s.taken (in_hand s)
  pub before : (n : ℕ) → n ≢ s.number → (dropped : List ℕ) × IsCarried (bytes_on n s.pieces) (past_on n s.past) dropped
  pub part : BeginsNoCut s.front
  pub earlier : List PieceState
  pub whole : s.pieces ≡ earlier ++ later_of s.number s.rest
  pub highest : AllByRecursion (λ piece. piece.number ≤ s.number) earlier
  pub rising : IsRising s.past s.number

-- pieces of earlier connections were popped, and then these
pub record IsDropped (number : ℕ) (old new : EndState) (last : List PieceState) : Type 0 where
  pub dropped : List PieceState
  pub earlier : AllByRecursion (λ piece. piece.number < number) dropped
  pub pieces : new ≡ record old { pieces = old.pieces ++ (dropped ++ last) }
