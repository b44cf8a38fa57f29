-- The ranges of the device that a request's blocks are cut into.
use Rattle.std.specs.Prelude.{ℕ, zero, suc, ◌≡◌, ◌+◌, ◌-◌, ◌%◌, ◌==◌, min, if◌then◌else◌, List, [], ◌∷◌}
use Rattle.blocks.specs.declared.range.Range.{Range}

-- how many blocks the first range has: at most 32, and none of another extent of 1024
abbrev pub piece : ℕ → ℕ → ℕ
piece first count = min count (min 32 (1024 - first % 1024))

-- the first `n` ranges of `count` blocks from `first` on, each by its first block and how many it has
unfoldable pub first_pieces : ℕ → ℕ → ℕ → List (ℕ × ℕ)
first_pieces zero first count = []
first_pieces (suc n) first count =
    if count == 0 then [] else (first, piece first count) ∷ first_pieces n (first + piece first count) (count - piece first count)

-- all ranges of `count` blocks from `first` on
abbrev pub pieces : ℕ → ℕ → List (ℕ × ℕ)
pieces first count = first_pieces count first count

-- a range by its first block and how many it has
abbrev pub pair_of : Range → ℕ × ℕ
pair_of r = (r.first.0, r.count)

-- each range begins where the one before it ends, from `first` on up to `end`
abbrev pub Joins : ℕ → List (ℕ × ℕ) → ℕ → Type 0
Joins first [] end = first ≡ end
Joins first (p ∷ ps) end = (p.0 ≡ first) × Joins (first + p.1) ps end
