-- The words and counts of a bitmap as marks.
use Rattle.std.specs.Prelude.{ℕ, zero, suc, ◌≡◌, ◌+◌, ◌/◌, ◌<◌, ◌≤◌, Bool, false, List, [], ◌∷◌, length, slice_index}
use Rattle.blocks.specs.declared.block.TheConstants.{MAX_DEVICE_BLOCKS}
use Rattle.bitmap.specs.Marks.{bit_of, count, count_in}

-- the bits of `n` blocks, from block `from` on
abbrev pub bits_from : ℕ → ℕ → List ℕ → List Bool
bits_from from zero words = []
bits_from from (suc n) words = bit_of words from ∷ bits_from (suc from) n words

-- the marks of the first `blocks` blocks
abbrev pub marks_of : ℕ → List ℕ → List Bool
marks_of blocks words = bits_from 0 blocks words

-- The device is not too large, the bits past its end are zero, the counts are those of the marks, and no block below the
-- cursor is marked.
pub record AreCounted (blocks : ℕ) (words counts : List ℕ) (total cursor : ℕ) : Type 0 where
  pub small : blocks ≤ MAX_DEVICE_BLOCKS
  pub enough_words : length words ≡ (blocks + 63) / 64
  pub rest : (b : ℕ) → blocks ≤ b → bit_of words b ≡ false
  pub enough_counts : length counts ≡ (blocks + 1023) / 1024
  pub counted : (extent : ℕ) → slice_index counts extent ≡ count_in (marks_of blocks words) extent
  pub totalled : total ≡ count (marks_of blocks words)
  pub passed : (b : ℕ) → b < cursor → bit_of words b ≡ false
