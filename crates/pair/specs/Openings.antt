-- The parts that a pair is made of.
use Rattle.std.specs.Prelude.{ℕ, ◌≡◌, Bool, false, List, length, replicate}
use Rattle.blocks.specs.declared.settings.Settings.{Settings}
use Rattle.blocks.specs.declared.tuple.Tuple.{Tuple}
use Rattle.model.specs.Contents.{filled}
use Rattle.model.specs.Pair.{PairHistory, pair_opening}
use Rattle.model.specs.Rows.{words}
use Rattle.primary_core.specs.State.{CanBegin}

-- The settings are in their ranges, both disks and the marks have their size, and the primary has an identifier.
pub record CanPair (settings : Settings) (local peer : List (List ℕ)) (own : Tuple) (marks : List Bool) : Type 0 where
  pub begin : CanBegin settings own marks
  pub local_size : length local ≡ settings.blocks
  pub peer_size : length peer ≡ settings.blocks

-- two zero-filled disks with the tuple 1,0,0,0, and no marks
abbrev pub zero_filled : Settings → PairHistory
zero_filled settings = pair_opening settings (filled settings.blocks (replicate 4096 0)) (filled settings.blocks (replicate 4096 0)) (words 1 0 0 0)
    (words 1 0 0 0) (λ _. false)
