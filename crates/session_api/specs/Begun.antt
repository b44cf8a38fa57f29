-- A write that was begun.
use Rattle.std.specs.Prelude.{ℕ, List}

-- its number, the blocks that it writes, the first one and how many, and their bytes
pub record BegunState : Type 0 where
  pub number : ℕ
  pub first : ℕ
  pub count : ℕ
  pub contents : List ℕ
