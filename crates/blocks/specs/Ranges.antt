-- Ranges of blocks: which ones a write may cover, which blocks they have, and when two of them meet.
use Rattle.std.specs.Prelude.{ℕ, zero, suc, ◌≡◌, ◌+◌, ◌-◌, ◌/◌, ◌<◌, ◌≤◌, nat_lt, nat_le, Bool, ◌&&◌, List, [], ◌∷◌, ◌++◌}

-- 1 to 32 blocks from this one on, inside a device of `blocks` blocks and inside one extent of 1024
pub record IsRange (blocks first count : ℕ) : Type 0 where
  pub some : 0 < count
  pub few : count ≤ 32
  pub inside : first + count ≤ blocks
  pub one_extent : first / 1024 ≡ (first + count - 1) / 1024

-- whether a block is one of the `count` from `first` on
abbrev pub is_between : ℕ → ℕ → ℕ → Bool
is_between first count block = nat_le first block && nat_lt block (first + count)

-- whether two ranges share a block
abbrev pub ranges_meet : ℕ → ℕ → ℕ → ℕ → Bool
ranges_meet first count other other_count = (nat_lt first (other + other_count) && nat_lt other (first + count)) && (nat_lt 0 count && nat_lt 0 other_count)

-- the numbers below this one, rising
abbrev pub below : ℕ → List ℕ
below zero = []
below (suc n) = below n ++ n ∷ []
