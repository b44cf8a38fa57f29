-- The blocks of the last epoch's items, as bits: one for each block, and a stamp for each extent of 1024 blocks.
use Rattle.std.specs.Prelude.{ℕ, ◌≡◌, ◌+◌, ◌*◌, ◌/◌, ◌%◌, ◌<◌, ◌≤◌, ◌==◌, Bool, ◌&&◌, List, length, slice_index}
use Rattle.std.specs.Int.{bit_at}
use Rattle.peerdisk.specs.Blocks.{flags}

-- whether bit b % 64 of word b / 64 is one
abbrev pub bit_of : List ℕ → ℕ → Bool
bit_of words block = bit_at (slice_index words (block / 64)) (block % 64) == 1

-- whether the block's extent has this epoch's stamp
abbrev pub is_stamped : ℕ → List ℕ → ℕ → Bool
is_stamped epoch stamps block = slice_index stamps (block / 1024) == epoch

-- whether the block's extent has this epoch's stamp, and its bit is one: the bits of other extents do not count
abbrev pub is_covered : ℕ → List ℕ → List ℕ → ℕ → Bool
is_covered epoch stamps words block = is_stamped epoch stamps block && bit_of words block

-- that for each block of the device
abbrev pub covered : ℕ → ℕ → List ℕ → List ℕ → List Bool
covered blocks epoch stamps words = flags blocks (is_covered epoch stamps words)

-- There is a stamp for each extent, the last of which may be shorter, and there are 16 words for each. No extent has the
-- stamp of a later epoch.
pub record AreStamped (blocks epoch : ℕ) (stamps words : List ℕ) : Type 0 where
  pub small : blocks < 4294967296
  pub begun : 0 < epoch
  pub enough_stamps : length stamps ≡ (blocks + 1023) / 1024
  pub enough_words : length words ≡ 16 * length stamps
  pub past : (extent : ℕ) → slice_index stamps extent ≤ epoch
