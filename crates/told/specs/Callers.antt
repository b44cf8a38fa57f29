-- What one caller was told, and what it wrote.
use Rattle.std.specs.Prelude.{ℕ, List}
use Rattle.told.specs.declared.entry.Told.{Told}

-- what it was told, a beginning of the log, and the numbers of its own writes, in their order
pub record CallerState : Type 0 where
  pub log : List Told
  pub own : List ℕ
