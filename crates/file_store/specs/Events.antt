-- What a file that keeps what was written gives.
use Rattle.std.specs.Prelude.{ℕ, zero, suc, Bool, true, false, ◌&&◌, List, [], ◌∷◌, ◌++◌, Option, Some, None, slice_get, bytes_eq}
use Rattle.blocks.specs.Contents.{blocks_of, overwritten}
use Rattle.recorded_file.specs.Calls.{Event}

-- what a file was told to hold, and whether each read so far gave that
pub record FileState : Type 0 where
  pub disk : List (List ℕ)
  pub faithful : Bool

-- these are the bytes of the block
abbrev pub is_held : Option (List ℕ) → List ℕ → Bool
is_held None bytes = false
is_held (Some held) bytes = bytes_eq held bytes

-- these are the blocks of the disk from this one on
abbrev pub are_held : List (List ℕ) → ℕ → List (List ℕ) → Bool
are_held disk block [] = true
are_held disk block (bytes ∷ more) = is_held (slice_get disk block) bytes && are_held disk (suc block) more

-- a write puts its blocks, and a read changes nothing
abbrev pub after_call : ℕ → ℕ → List ℕ → FileState → FileState
after_call zero block bytes s = record s { disk = overwritten s.disk block (blocks_of 4096 bytes) }
after_call (suc more) block bytes s = record s { faithful = s.faithful && are_held s.disk block (blocks_of 4096 bytes) }

-- the first blocks of an image
abbrev pub first_blocks : ℕ → (ℕ → List ℕ) → List (List ℕ)
first_blocks zero image = []
first_blocks (suc n) image = first_blocks n image ++ image n ∷ []

-- a file that held these blocks of this image, after these calls, the newest first
abbrev pub replay : ℕ → (ℕ → List ℕ) → List Event → FileState
replay blocks image [] = record { disk = first_blocks blocks image; faithful = true }
replay blocks image (e ∷ earlier) = after_call e.0 e.1 e.2 (replay blocks image earlier)
