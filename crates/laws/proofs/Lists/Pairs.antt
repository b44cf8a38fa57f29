-- Two lists whose elements are related, each with the one at its place.
use Rattle.std.proofs.Common.{ℕ, zero, suc, ◌≡◌, List, [], ◌∷◌, ◌++◌, length, Some, slice_get, refl, ap, subst}
use Rattle.model.specs.Primary.{last_of, change_last}

-- Two lists of the same length whose elements are related, each with the one at its place.
abbrev pub Pairs : {X Y : Type 0} → (X → Y → Type 0) → List X → List Y → Type 0
Pairs R [] [] = Unit {0}
Pairs R [] (y ∷ ys) = ⊥
Pairs R (x ∷ xs) [] = ⊥
Pairs R (x ∷ xs) (y ∷ ys) = R x y × Pairs R xs ys

-- they are as long as one another
pub pairs-length : {X Y : Type 0} (R : X → Y → Type 0) (xs : List X) (ys : List Y) → Pairs R xs ys → length xs ≡ length ys
pairs-length R [] [] all = refl
pairs-length R [] (y ∷ ys) all = absurd all
pairs-length R (x ∷ xs) [] all = absurd all
pairs-length R (x ∷ xs) (y ∷ ys) all = ap suc (pairs-length R xs ys all.1)

-- two that stand at the same place
pub pairs-get : {X Y : Type 0} (R : X → Y → Type 0) (xs : List X) (ys : List Y) (k : ℕ) (x : X) (y : Y) → Pairs R xs ys → slice_get xs k ≡ Some x
    → slice_get ys k ≡ Some y → R x y
pairs-get R [] ys k x y all here there = absurd (cc)
pairs-get R (v ∷ xs) [] k x y all here there = absurd all
pairs-get R (v ∷ xs) (w ∷ ys) zero x y all here there =
    let one : v ≡ x = cc in
    let two : w ≡ y = cc in
    subst (λ a. R a y) one (subst (λ b. R v b) two all.0)
pairs-get R (v ∷ xs) (w ∷ ys) (suc k) x y all here there = pairs-get R xs ys k x y all.1 here there

-- one more of each
pub pairs-append : {X Y : Type 0} (R : X → Y → Type 0) (xs : List X) (ys : List Y) (x : X) (y : Y) → Pairs R xs ys → R x y
    → Pairs R (xs ++ x ∷ []) (ys ++ y ∷ [])
pairs-append R [] [] x y all new = (new, tt)
pairs-append R [] (w ∷ ys) x y all new = absurd all
pairs-append R (v ∷ xs) [] x y all new = absurd all
pairs-append R (v ∷ xs) (w ∷ ys) x y all new = (all.0, pairs-append R xs ys x y all.1 new)

-- the last of the first list changes
pub pairs-here : {X Y : Type 0} (R : X → Y → Type 0) (f : X → X) (none : X) (other : Y) (xs : List X) (ys : List Y) → Pairs R xs ys
    → (R (last_of none xs) (last_of other ys) → R (f (last_of none xs)) (last_of other ys)) → Pairs R (change_last f xs) ys
pairs-here R f none other [] ys all keeps = all
pairs-here R f none other (x ∷ xs) [] all keeps = absurd all
pairs-here R f none other (x ∷ []) (y ∷ []) all keeps = (keeps all.0, tt)
pairs-here R f none other (x ∷ []) (y ∷ z ∷ ys) all keeps = absurd all.1
pairs-here R f none other (x ∷ v ∷ xs) (y ∷ []) all keeps = absurd all.1
pairs-here R f none other (x ∷ v ∷ xs) (y ∷ z ∷ ys) all keeps = (all.0, pairs-here R f x y (v ∷ xs) (z ∷ ys) all.1 keeps)

-- the last of the second list changes
pub pairs-there : {X Y : Type 0} (R : X → Y → Type 0) (f : Y → Y) (none : X) (other : Y) (xs : List X) (ys : List Y) → Pairs R xs ys
    → (R (last_of none xs) (last_of other ys) → R (last_of none xs) (f (last_of other ys))) → Pairs R xs (change_last f ys)
pairs-there R f none other xs [] all keeps = all
pairs-there R f none other [] (y ∷ ys) all keeps = absurd all
pairs-there R f none other (x ∷ []) (y ∷ []) all keeps = (keeps all.0, tt)
pairs-there R f none other (x ∷ []) (y ∷ z ∷ ys) all keeps = absurd all.1
pairs-there R f none other (x ∷ v ∷ xs) (y ∷ []) all keeps = absurd all.1
pairs-there R f none other (x ∷ v ∷ xs) (y ∷ z ∷ ys) all keeps = (all.0, pairs-there R f x y (v ∷ xs) (z ∷ ys) all.1 keeps)
