-- What a pump carries between a row of pieces and a stream of bytes.
use Rattle.std.specs.Prelude.{◌≡◌, ◌<◌, ◌≤◌, ℕ, List, ◌++◌, Option, All, length}
use Rattle.std.specs.List.{flat_map}
use Rattle.std.specs.Io.KnownBytes.{Appends, Consumes}
use Rattle.thread_link.specs.Pieces.{EndState, PieceState}

-- the bytes of these pieces, in order
abbrev pub bytes_of : List PieceState → List ℕ
bytes_of pieces = flat_map (λ piece. piece.bytes) pieces

-- These pieces passed the end of a row, and nothing else of the end changed.
abbrev pub PassPieces : EndState → EndState → List PieceState → Type 0
PassPieces old new pieces = new ≡ record old { pieces = old.pieces ++ pieces }

-- Pieces with these bytes were popped.
pub record PopsBytes (old new : EndState) (bytes : List ℕ) : Type 0 where
  pub popped : List PieceState
  pub passed : PassPieces old new popped
  pub bytes_popped : bytes_of popped ≡ bytes

-- The bytes of the pieces that were popped are those that the writer got, in order, and then `rest`: one buffer at most.
pub record IsCarriedOut (old new : EndState) (before after : Option (List ℕ)) (rest : List ℕ) : Type 0 where
  pub written : List ℕ
  pub popped : PopsBytes old new (written ++ rest)
  pub appended : Appends before after written
  pub few : length rest ≤ 196640

-- The piece is of a first connection and has 1 to 4,352 bytes.
pub record IsFirstPiece (piece : PieceState) : Type 0 where
  pub first : piece.number ≡ 1
  pub some : 0 < length piece.bytes
  pub few : length piece.bytes ≤ 4352

-- Pieces of a first connection, each of 1 to 4,352 bytes, were pushed with these bytes.
pub record PushesBytes (old new : EndState) (bytes : List ℕ) : Type 0 where
  pub pushed : List PieceState
  pub passed : PassPieces old new pushed
  pub first_pieces : All IsFirstPiece pushed
  pub bytes_pushed : bytes_of pushed ≡ bytes

-- The bytes that the reader gave are those of the pieces that were pushed, in order, and then `rest`: one buffer at most.
pub record IsCarriedIn (old new : EndState) (before after : Option (List ℕ)) (rest : List ℕ) : Type 0 where
  pub pushed_bytes : List ℕ
  pub pushed : PushesBytes old new pushed_bytes
  pub consumed : Consumes before after (pushed_bytes ++ rest)
  pub few : length rest ≤ 196640
