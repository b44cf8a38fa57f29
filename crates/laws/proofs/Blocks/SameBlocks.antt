-- Blocks that are said to hold the same are equal; and what a decision that lets a stream begin says of two tuples.
use Rattle.std.proofs.Common.{ℕ, ◌≡◌, true, List, [], ◌∷◌, Option, Some, None, refl, ap, ◌==◌}
use Rattle.std.proofs.lemmas.Bool.{and_parts, and_from, eqb-true, eq-eqb}
use Rattle.model.specs.Pair.{same_bytes, same_block}

same-bytes : (a b : List ℕ) → same_bytes a b ≡ true → a ≡ b
same-bytes [] [] h = refl
same-bytes [] (y ∷ b) h = absurd (cc)
same-bytes (x ∷ a) [] h = absurd (cc)
same-bytes (x ∷ a) (y ∷ b) h =
    let parts = and_parts (x == y) (same_bytes a b) h in
    let first : x ≡ y = eqb-true x y parts.0 in
    let rest : a ≡ b = same-bytes a b parts.1 in
    cc (first, rest)

bytes-self : (a : List ℕ) → same_bytes a a ≡ true
bytes-self [] = refl
bytes-self (x ∷ a) = and_from (x == x) (same_bytes a a) (eq-eqb x x refl) (bytes-self a)

-- Blocks that are said to be the same are equal.
pub same-equal : (a b : Option (List ℕ)) → same_block a b ≡ true → a ≡ b
same-equal None None h = refl
same-equal None (Some y) h = absurd (cc)
same-equal (Some x) None h = absurd (cc)
same-equal (Some x) (Some y) h = ap (λ (l : List ℕ). Some l) (same-bytes x y h)

-- Equal blocks are said to be the same.
pub equal-same : (a b : Option (List ℕ)) → a ≡ b → same_block a b ≡ true
equal-same a b is = rw (← is) (self a)
  where
    self : (a : Option (List ℕ)) → same_block a a ≡ true
    self None = refl
    self (Some x) = bytes-self x
