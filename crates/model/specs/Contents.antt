-- Blocks, writes and the contents of a disk.
use Rattle.std.specs.Prelude.{ℕ, ◌+◌, ◌-◌, ◌*◌, ◌/◌, ◌≡◌, ◌<◌, nat_lt, nat_le, ◌==◌, Bool, ◌&&◌, if◌then◌else◌, List, [], ◌∷◌, length, slice_get, Option, Some}
use Rattle.std.specs.Prelude.{None, is_some}
use Rattle.blocks.specs.declared.settings.Settings.{Settings}
use Rattle.blocks.specs.Contents.{blocks_of}
pub use Rattle.blocks.specs.Ranges.{is_between, ranges_meet}

-- What a disk holds: for each block its bytes, and nothing past the end. A block may have any length here.
abbrev pub BlockMap : Type 0
BlockMap = ℕ → Option (List ℕ)

-- a disk of this many blocks, each with the same bytes
abbrev pub filled : ℕ → List ℕ → BlockMap
filled blocks bytes block = if nat_lt block blocks then Some bytes else None

-- The disk of a device of this many blocks: it has each of them, and nothing past its end.
abbrev pub IsDisk : ℕ → BlockMap → Type 0
IsDisk blocks disk = (block : ℕ) → is_some (disk block) ≡ nat_lt block blocks

-- A write: its number, its first block, and the contents of each block from there on.
pub record Write : Type 0 where
  pub number : ℕ
  pub first : ℕ
  pub contents : List (List ℕ)

-- whether a write covers the block
abbrev pub covers : Write → ℕ → Bool
covers write block = is_between write.first (length write.contents) block

-- whether two writes share a block
abbrev pub overlap : Write → Write → Bool
overlap a b = ranges_meet a.first (length a.contents) b.first (length b.contents)

-- the extent of the activity log that a block lies in (DRBD User's Guide, "The activity log": 4 MiB)
abbrev pub extent_of : ℕ → ℕ
extent_of block = block / 1024

-- 1 to 32 blocks inside the device and inside one extent (this project's rule)
abbrev pub is_range : Settings → ℕ → ℕ → Bool
is_range settings first count =
    ((nat_lt 0 count && nat_le count 32) && nat_le (first + count) settings.blocks) && (extent_of first == extent_of (first + count - 1))

-- Blocks laid over a disk: their first block, their contents, and which of them, by offset, are laid.
pub record Layer : Type 0 where
  pub first : ℕ
  pub contents : List (List ℕ)
  pub laid : ℕ → Bool

-- what a block holds with this layer over it
abbrev pub block_under : Layer → ℕ → Option (List ℕ) → Option (List ℕ)
block_under layer block below =
    if is_between layer.first (length layer.contents) block && layer.laid (block - layer.first)
    then slice_get layer.contents (block - layer.first) else below

-- A disk under layers, the last one on top: each block holds what the last layer that lays it has, or else what the
-- disk has.
abbrev pub overlay : BlockMap → List Layer → BlockMap
overlay base [] block = base block
overlay base (layer ∷ layers) block = overlay (λ b. block_under layer b (base b)) layers block

-- `bytes` are the contents of `count` blocks of a disk, from block `first` on.
pub record IsRead (map : BlockMap) (first count : ℕ) (bytes : List ℕ) : Type 0 where
  pub size : length bytes ≡ 4096 * count
  pub each : (offset : ℕ) → offset < count → slice_get (blocks_of 4096 bytes) offset ≡ map (first + offset)
