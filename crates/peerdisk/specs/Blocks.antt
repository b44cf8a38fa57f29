-- The blocks that the items of the last epoch cover: for each block of the device whether one does.
use Rattle.std.specs.Prelude.{ℕ, ◌+◌, Bool, false, ◌||◌, List, map, length, Option, Some, None, slice_get}
use Rattle.std.specs.List.{list_any}
use Rattle.blocks.specs.Ranges.{is_between, below}

-- for each of the first `size` blocks whether it passes the test
abbrev pub flags : ℕ → (ℕ → Bool) → List Bool
flags size test = map test (below size)

-- whether the block is one of them; none past the end is
abbrev pub is_set : Option Bool → Bool
is_set None = false
is_set (Some flag) = flag

abbrev pub has : List Bool → ℕ → Bool
has blocks block = is_set (slice_get blocks block)

-- none of the first `size` blocks
abbrev pub none_of : ℕ → List Bool
none_of size = flags size (λ block. false)

-- adds these blocks
abbrev pub adding : ℕ → ℕ → List Bool → List Bool
adding first count blocks = flags (length blocks) (λ block. has blocks block || is_between first count block)

-- one of these blocks is among them
abbrev pub has_any : ℕ → ℕ → List Bool → Bool
has_any first count blocks = list_any (λ offset. has blocks (first + offset)) (below count)
