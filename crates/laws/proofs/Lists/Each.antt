-- A property of each element of a list.
use Rattle.std.proofs.Common.{ℕ, zero, suc, ◌≡◌, List, [], ◌∷◌, ◌++◌, Some, slice_get, subst}
use Rattle.model.specs.Primary.{last_of, change_last}

-- every element has the property
abbrev pub Each : {X : Type 0} → (X → Type 0) → List X → Type 0
Each P [] = Unit {0}
Each P (x ∷ xs) = P x × Each P xs

-- so the one at a place has it
pub each-get : {X : Type 0} (P : X → Type 0) (xs : List X) (k : ℕ) (x : X) → Each P xs → slice_get xs k ≡ Some x → P x
each-get P [] k x all at = absurd (cc)
each-get P (y ∷ ys) zero x all at = let same : y ≡ x = cc in subst P same all.0
each-get P (y ∷ ys) (suc k) x all at = each-get P ys k x all.1 at

-- one element more that has it
pub each-append : {X : Type 0} (P : X → Type 0) (xs : List X) (x : X) → Each P xs → P x → Each P (xs ++ x ∷ [])
each-append P [] x all new = (new, tt)
each-append P (y ∷ ys) x all new = (all.0, each-append P ys x all.1 new)

-- a change of the last element that keeps it
pub each-change : {X : Type 0} (P : X → Type 0) (f : X → X) (none : X) (xs : List X) → Each P xs → (P (last_of none xs) → P (f (last_of none xs)))
    → Each P (change_last f xs)
each-change P f none [] all keeps = tt
each-change P f none (x ∷ []) all keeps = (keeps all.0, tt)
each-change P f none (x ∷ y ∷ xs) all keeps = (all.0, each-change P f x (y ∷ xs) all.1 keeps)
