-- Which words the tuples of generation identifiers hold.
use Rattle.std.specs.Prelude.{ℕ, ◌≡◌, ◌<◌, ◌⊎◌, List, All}
use Rattle.blocks.specs.declared.tuple.Tuple.{Tuple}

-- the word is one of the tuple's four
abbrev pub Stands : ℕ → Tuple → Type 0
Stands word tuple =
    (word ≡ tuple.current) ⊎ (word ≡ tuple.bitmap) ⊎ (word ≡ tuple.first_historical) ⊎ (word ≡ tuple.second_historical)

-- the word is not zero, and no tuple of the list has it
abbrev pub IsFresh : ℕ → List Tuple → Type 0
IsFresh word tuples = (0 < word) × All (λ tuple. ¬ Stands word tuple) tuples
