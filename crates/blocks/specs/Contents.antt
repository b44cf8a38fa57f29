-- The contents of a device, block by block, and what a write makes of them.
use Rattle.std.specs.Prelude.{ℕ, zero, suc, ◌≡◌, ◌+◌, ◌-◌, ◌/◌, ◌<◌, ◌≤◌, ◌⊎◌, List, [], ◌∷◌, ◌++◌, length, take, drop, slice_get}

-- the first `count` blocks of bytes, each of this size
abbrev pub cut : ℕ → ℕ → List ℕ → List (List ℕ)
cut size zero bytes = []
cut size (suc count) bytes = take size bytes ∷ cut size count (drop size bytes)

-- the whole blocks of bytes, each of this size
abbrev pub blocks_of : ℕ → List ℕ → List (List ℕ)
blocks_of size bytes = cut size (length bytes / size) bytes

-- the device after these blocks were written from `first` on
abbrev pub overwritten : List (List ℕ) → ℕ → List (List ℕ) → List (List ℕ)
overwritten device first written = take first device ++ written ++ drop (first + length written) device

-- each block is the old one or, in the range, the one that was to be written there
pub record IsTorn (device : List (List ℕ)) (first : ℕ) (written torn : List (List ℕ)) : Type 0 where
  pub size : length torn ≡ length device
  pub each : (block : ℕ) → (slice_get torn block ≡ slice_get device block)
      ⊎ ((first ≤ block) × (slice_get torn block ≡ slice_get written (block - first)))

-- the first `count` blocks of a buffer are those of a disk from block `first` on
pub record AreRead (device : List (List ℕ)) (first : ℕ) (bytes : List ℕ) (count : ℕ) : Type 0 where
  pub each : (offset : ℕ) → offset < count → slice_get (blocks_of 4096 bytes) offset ≡ slice_get device (first + offset)
