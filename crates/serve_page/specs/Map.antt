-- What a cell of a device's map is.
use Rattle.std.specs.Prelude.{ℕ, Bool, true, false}
use Rattle.serve_page.specs.declared.map.CellState.{CellState}
use Rattle.serve_page.specs.declared.map.CellState.TheVariants as cell

-- an extent with a marked block is marked, be it active or not
abbrev pub state_of : Bool → Bool → CellState
state_of _ true = cell.Marked
state_of true false = cell.Active
state_of false false = cell.Clean

-- a cell is what the worst of its extents is
abbrev pub worse : CellState → CellState → CellState
worse cell.Marked _ = cell.Marked
worse cell.Active cell.Marked = cell.Marked
worse cell.Active cell.Active = cell.Active
worse cell.Active cell.Clean = cell.Active
worse cell.Clean other = other

-- the letters `.`, `a` and `m`
abbrev pub letter_of : CellState → ℕ
letter_of cell.Clean = 46
letter_of cell.Active = 97
letter_of cell.Marked = 109
