-- Facts that hold at the moments of a row.
use Rattle.std.specs.Prelude.{◌≡◌, List, ◌++◌, length}
use Rattle.atomic_table.specs.Seated.{TableId}
use Rattle.thread_link.specs.Pieces.{PieceState}

-- a fact of the pieces pushed and the pieces taken up to a moment
abbrev pub Fact : Type 1
Fact = List PieceState → List PieceState → Type 0

-- At a moment when these pieces were pushed the row was full: it held as many as it has room for. The fact held then.
abbrev pub WasFull : Fact → TableId → List PieceState → Type 0
WasFull holds row pushed = (taken : List PieceState) × (there : List PieceState) × (pushed ≡ taken ++ there) × (length there ≡ row.slots) × holds pushed taken

-- At a moment when these pieces were taken the row was empty: they were the pieces pushed. The fact held then.
abbrev pub WasEmpty : Fact → List PieceState → Type 0
WasEmpty holds taken = holds taken taken
