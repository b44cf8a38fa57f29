-- A row that is brought to a length.
use Rattle.std.proofs.Common.{ℕ, zero, suc, ◌≡◌, ◌<◌, List, [], ◌∷◌, ◌++◌, length, Option, None, refl, ap, arith, take}
use Rattle.peerdisk.specs.Slots.{padded}

pub padded-take : {X : Type 0} (n : ℕ) (slots : List (Option X)) → padded n (take n slots) ≡ padded n slots
padded-take zero slots = refl
padded-take (suc n) [] = refl
padded-take (suc n) (x ∷ slots) = ap (λ xs. x ∷ xs) (padded-take n slots)

pub padded-push : {X : Type 0} (n : ℕ) (slots : List (Option X)) → length slots < n → padded n (slots ++ None ∷ []) ≡ padded n slots
padded-push zero slots less = absurd (omega arith)
padded-push (suc n) [] less = refl
padded-push (suc n) (x ∷ slots) less = ap (λ xs. x ∷ xs) (padded-push n slots (omega arith))

pub padded-full : {X : Type 0} (n : ℕ) (slots : List (Option X)) → length slots ≡ n → padded n slots ≡ slots
padded-full zero [] full = refl
padded-full zero (x ∷ slots) full = absurd (omega arith)
padded-full (suc n) [] full = absurd (omega arith)
padded-full (suc n) (x ∷ slots) full = ap (λ xs. x ∷ xs) (padded-full n slots (omega arith))
