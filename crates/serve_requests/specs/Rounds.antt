-- Rounds of syncing, and the writes that come before them.
use Rattle.std.specs.Prelude.{ℕ}

-- how many writes of a request are complete
pub record DoneState : Type 0 where
  pub writes : ℕ

-- the last round of syncing that had begun once so many writes of a request were complete
pub record LastRoundState : Type 0 where
  pub round : ℕ
  pub writes : ℕ
