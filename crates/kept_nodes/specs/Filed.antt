-- Marks as bytes of a file, a byte for each block. Nothing is proved here.
use Rattle.std.specs.Prelude.{ℕ, ◌-◌, ◌==◌, Bool, not, ◌&&◌, List, slice_index}
use Rattle.blocks.specs.Ranges.{is_between}

-- whether the first `count` of these bytes, which are for the blocks from `first` on, mark the block
abbrev pub is_filed : ℕ → ℕ → List ℕ → ℕ → Bool
is_filed first count bytes block = is_between first count block && not (slice_index bytes (block - first) == 0)
