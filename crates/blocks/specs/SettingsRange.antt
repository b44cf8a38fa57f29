-- The ranges of the settings, and their default values.
use Rattle.std.specs.Prelude.{◌≤◌, ◌<◌}
use Rattle.blocks.specs.declared.settings.Settings.{Settings}
use Rattle.blocks.specs.declared.settings.Protocol.TheVariants.{C}

-- each setting is in its range
pub record IsInRange (s : Settings) : Type 0 where
  pub blocks : (0 < s.blocks) × (s.blocks ≤ 2147483648)
  pub max_epoch : (0 < s.max_epoch) × (s.max_epoch ≤ 20000)
  pub slots : (0 < s.slots) × (s.slots ≤ 1024)
  pub backlog : (0 < s.backlog) × (s.backlog ≤ 4096)
  pub link : (0 < s.link) × (s.link ≤ 1024)
  pub pending : (0 < s.pending) × (s.pending ≤ 4096)

-- protocol C over 8 blocks
abbrev pub standard : Settings
standard = record { protocol = C; blocks = 8; max_epoch = 2048; slots = 64; backlog = 1024; link = 64; pending = 1024 }
