-- The protocol of a row: what was pushed is what was taken and then what the row holds. At most one pass may push, and
-- it has the list of what was pushed; and at most one may take, and has the list of what was taken. A fact of the
-- pieces pushed and the pieces taken is kept.
use Rattle.std.specs.Prelude.{◌≡◌, ℕ, Bool, true, List, ◌++◌, map}
use Rattle.std.specs.Box.{box_value}
use mathlib.Core.Option.{some}
use lib.ListN.{get_elem?}
use Rattle.thread_link.specs.Moments.{Fact}
use Rattle.thread_link.specs.Pieces.{PieceState}
use Rattle.thread_link.specs.declared.pieces.Log.{Log}
use Rattle.thread_link.specs.declared.sheet.Sheet.{Sheet}
use Rattle.thread_link.specs.declared.sheet.Sheet.TheVariants.{Written, Whole}

-- the piece that a sheet holds
abbrev pub piece_of : Sheet → PieceState
piece_of (Written page) = box_value page
piece_of (Whole piece) = piece

-- what a pass may do and knows
abbrev pub log : Bool → Bool → List PieceState → List PieceState → Log
log pushes takes pushed taken = record { pushes = pushes; takes = takes; pushed = pushed; taken = taken }

-- what a pass knows is true
abbrev pub Fits : ℕ → ℕ → List PieceState → List PieceState → ℕ → Log → Type 0
Fits writer reader pushed taken port v = (v.pushes ≡ true → (port ≡ writer) × (v.pushed ≡ pushed)) × (v.takes ≡ true → (port ≡ reader) × (v.taken ≡ taken))

-- the pieces taken, and then those in the row, are the pieces pushed, and the fact holds of them
abbrev pub InOrder : Fact → List PieceState → List Log → Type 0
InOrder holds pieces views = (writer : ℕ) × (reader : ℕ) × (pushed : List PieceState) × (taken : List PieceState) × (pushed ≡ taken ++ pieces)
    × ((port : ℕ) (v : Log) → get_elem? views port ≡ some v → Fits writer reader pushed taken port v) × holds pushed taken

-- if these were pushed and these are in the row, others were taken, and the fact holds of them
abbrev pub PushedAt : Fact → List PieceState → List PieceState → Type 0
PushedAt holds pushed pieces = (taken : List PieceState) × (pushed ≡ taken ++ pieces) × holds pushed taken

-- the same of a row of sheets
abbrev pub SheetsInOrder : Fact → List Sheet → List Log → Type 0
SheetsInOrder holds sheets views = InOrder holds (map piece_of sheets) views
