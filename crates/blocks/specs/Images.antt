-- Which bytes are the image of a device.
use Rattle.std.specs.Prelude.{ℕ, ◌≡◌, ◌*◌, ◌/◌, ◌<◌, ◌≤◌, List, length}

-- 1 to 262,144 whole blocks of 4,096 bytes
pub record IsImage (bytes : List ℕ) : Type 0 where
  pub whole : 4096 * (length bytes / 4096) ≡ length bytes
  pub some : 0 < length bytes
  pub few : length bytes / 4096 ≤ 262144
