-- A piece of a link, and an end of its row.
use Rattle.std.specs.Prelude.{ℕ, ◌==◌, if◌then◌else◌, List, []}
use Rattle.std.specs.List.{flat_map}
use Rattle.atomic_table.specs.Seated.{TableId}

-- the number of its connection, and its bytes
pub record PieceState : Type 0 where
  pub number : ℕ
  pub bytes : List ℕ

-- an end's row, and the pieces that went past it
pub record EndState : Type 0 where
  pub row : TableId
  pub pieces : List PieceState

-- the bytes of a piece, if it is of this connection
abbrev pub bytes_if : ℕ → PieceState → List ℕ
bytes_if number piece = if piece.number == number then piece.bytes else []

-- the bytes that went past on a connection: those of its pieces, in order
unfoldable pub bytes_on : ℕ → List PieceState → List ℕ
bytes_on number pieces = flat_map (bytes_if number) pieces
