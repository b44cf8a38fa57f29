-- Marks of the blocks of a device: one truth value for each block, by its number.
use Rattle.std.specs.Prelude.{ℕ, suc, ◌≡◌, ◌+◌, ◌*◌, ◌/◌, ◌%◌, ◌^◌, ◌<◌, nat_le, ◌==◌, Bool, false, ◌&&◌, ◌||◌, List, [], ◌∷◌, length, take, drop, find, Option}
use Rattle.std.specs.Prelude.{slice_get, slice_index, unwrap_or, if◌then◌else◌}
use Rattle.blocks.specs.Ranges.{below}

-- whether the block is marked; no block past the end is
abbrev pub marked : List Bool → ℕ → Bool
marked marks block = unwrap_or (slice_get marks block) false

-- the marks from the block `from` on, with the blocks of `such` marked too
abbrev pub marking_from : ℕ → (ℕ → Bool) → List Bool → List Bool
marking_from from such [] = []
marking_from from such (mark ∷ marks) = (mark || such from) ∷ marking_from (suc from) such marks

-- marks the blocks of `such` too
abbrev pub marking : (ℕ → Bool) → List Bool → List Bool
marking such marks = marking_from 0 such marks

-- the lowest marked block from this one on
abbrev pub first_marked : ℕ → List Bool → Option ℕ
first_marked from marks = find (λ b. nat_le from b && marked marks b) (below (length marks))

-- how many are marked
abbrev pub count : List Bool → ℕ
count [] = 0
count (mark ∷ marks) = (if mark then 1 else 0) + count marks

-- how many are marked in an extent
abbrev pub count_in : List Bool → ℕ → ℕ
count_in marks extent = count (take 1024 (drop (1024 * extent) marks))

-- whether bit b % 64 of word b / 64 is one
abbrev pub bit_of : List ℕ → ℕ → Bool
bit_of words b = (slice_index words (b / 64) / 2 ^ (b % 64)) % 2 == 1

-- The words have the marks as bits, 64 to a word, and zeros after the last.
pub record IsWords (words : List ℕ) (marks : List Bool) : Type 0 where
  pub enough : length words ≡ (length marks + 63) / 64
  pub bits : (b : ℕ) → b < 64 * length words → bit_of words b ≡ marked marks b
