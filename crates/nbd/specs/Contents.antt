-- The bytes of pieces.
use Rattle.std.specs.Prelude.{ℕ, ◌≡◌, ◌≤◌, min, List, length, replicate}
use Rattle.nbd.specs.declared.pieces.Contents.{Contents}
use Rattle.nbd.specs.declared.pieces.Contents.TheVariants as contents

-- the bytes of as many as are left
abbrev pub bytes_left : Contents → ℕ → List ℕ
bytes_left (contents.Payload payload) left = payload
bytes_left (contents.Zeros zeros) left = replicate left 0

-- they are there: all that are left, or zeros for the longest piece, of 32 blocks
abbrev pub HasContents : Contents → ℕ → Type 0
HasContents (contents.Payload payload) left = length payload ≡ left
HasContents (contents.Zeros zeros) left = (zeros ≡ replicate (length zeros) 0) × (min left 131072 ≤ length zeros)
