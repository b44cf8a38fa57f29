-- What a READ reads.
use Rattle.std.specs.Prelude.{ℕ, ◌≡◌, List, [], ◌∷◌, ◌++◌}
use Rattle.nbd.specs.Spans.{covering, cut_out}

-- The bytes are those that a disk held in these ranges, one after another, by such a predicate.
abbrev pub AreHeld : (ℕ → ℕ → List ℕ → Type 0) → List (ℕ × ℕ) → List ℕ → Type 0
AreHeld holds [] bytes = bytes ≡ []
AreHeld holds (range ∷ ranges) bytes = (front : List ℕ) × ((rest : List ℕ) × ((bytes ≡ front ++ rest) × (holds range.0 range.1 front × AreHeld holds ranges rest)))

-- The bytes are `count` of those that it held in the ranges that cover them, from the byte `offset` of the device on.
pub record AreRead (holds : ℕ → ℕ → List ℕ → Type 0) (offset count : ℕ) (bytes : List ℕ) : Type 0 where
  pub all : List ℕ
  pub held : AreHeld holds (covering offset count) all
  pub cut : bytes ≡ cut_out offset count all
