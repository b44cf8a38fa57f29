-- The last element of a list: what stands where once it changed, or once one more was added.
use Rattle.std.proofs.Common.{ℕ, zero, suc, ◌≡◌, ◌-◌, ◌⊎◌, inl, inr, List, [], ◌∷◌, ◌++◌, length, Some, slice_get, refl, sym, ◌∙◌, ap, arith}
use Rattle.model.specs.Primary.{last_of, change_last}

-- An element after the last one changed: the same, or the changed last.
pub get-change : {X : Type 0} (f : X → X) (none : X) (xs : List X) (k : ℕ) (x : X) → slice_get xs k ≡ Some x
    → (slice_get (change_last f xs) k ≡ Some x) ⊎ ((slice_get (change_last f xs) k ≡ Some (f x)) × (x ≡ last_of none xs) × (suc k ≡ length xs))
get-change f none [] k x at = absurd (cc)
get-change f none (y ∷ []) zero x at = let same : y ≡ x = cc in inr (ap (λ v. Some (f v)) same, sym same, omega arith)
get-change f none (y ∷ []) (suc k) x at = absurd (cc)
get-change f none (y ∷ z ∷ xs) zero x at = inl at
get-change f none (y ∷ z ∷ xs) (suc k) x at =
    elim (get-change f y (z ∷ xs) k x at) [ inl same ↦ inl same | inr changed ↦ inr (changed.0, changed.1, let n = changed.2 in omega arith) ]

-- the other way: where an element of the changed list comes from
pub get-change-back : {X : Type 0} (f : X → X) (none : X) (xs : List X) (k : ℕ) (y : X) → slice_get (change_last f xs) k ≡ Some y
    → (slice_get xs k ≡ Some y) ⊎ ((y ≡ f (last_of none xs)) × (slice_get xs k ≡ Some (last_of none xs)) × (suc k ≡ length xs))
get-change-back f none [] k y at = absurd (cc)
get-change-back f none (x ∷ []) zero y at = inr (let e : f x ≡ y = cc in sym e, refl, omega arith)
get-change-back f none (x ∷ []) (suc k) y at = absurd (cc)
get-change-back f none (x ∷ z ∷ xs) zero y at = inl at
get-change-back f none (x ∷ z ∷ xs) (suc k) y at =
    elim (get-change-back f x (z ∷ xs) k y at) [ inl same ↦ inl same | inr changed ↦ inr (changed.0, changed.1, let n = changed.2 in omega arith) ]

-- two changes of the last element are one
pub change-twice : {X : Type 0} (f g : X → X) (xs : List X) → change_last g (change_last f xs) ≡ change_last (λ x. g (f x)) xs
change-twice f g [] = refl
change-twice f g (x ∷ []) = refl
change-twice f g (x ∷ y ∷ []) = refl
change-twice f g (x ∷ y ∷ z ∷ xs) = ap (λ (l : List _). x ∷ l) (change-twice f g (y ∷ z ∷ xs))

-- a change to the same is none
pub change-none : {X : Type 0} (xs : List X) → change_last (λ x. x) xs ≡ xs
change-none [] = refl
change-none (x ∷ []) = refl
change-none (x ∷ y ∷ xs) = ap (λ (l : List _). x ∷ l) (change-none (y ∷ xs))

-- the last element of a list that has one, and the last after a change
pub last-at : {X : Type 0} (none : X) (xs : List X) → (xs ≡ []) ⊎ (slice_get xs (length xs - 1) ≡ Some (last_of none xs))
last-at none [] = inl refl
last-at none (x ∷ xs) = inr (go x xs)
  where
    go : {X : Type 0} (x : X) (xs : List X) → slice_get (x ∷ xs) (length (x ∷ xs) - 1) ≡ Some (last_of x xs)
    go x [] = refl
    go x (y ∷ ys) =
        let index : length (x ∷ y ∷ ys) - 1 ≡ suc (length (y ∷ ys) - 1) = omega arith in
        ap (λ n. slice_get (x ∷ y ∷ ys) n) index ∙ go y ys

-- the last element after the last one changed
pub last-change : {X : Type 0} (f : X → X) (none other : X) (xs : List X) → (xs ≡ []) ⊎ (last_of other (change_last f xs) ≡ f (last_of none xs))
last-change f none other [] = inl refl
last-change f none other (x ∷ xs) = inr (go f other x xs)
  where
    go : {X : Type 0} (f : X → X) (other x : X) (xs : List X) → last_of other (change_last f (x ∷ xs)) ≡ f (last_of x xs)
    go f other x [] = refl
    go f other x (y ∷ ys) = go f x y ys

-- a change of the last element leaves the length
pub length-change : {X : Type 0} (f : X → X) (xs : List X) → length (change_last f xs) ≡ length xs
length-change f [] = refl
length-change f (x ∷ []) = refl
length-change f (x ∷ y ∷ xs) = let rest = length-change f (y ∷ xs) in omega arith

-- the last element is the one that changed
pub get-last-changed : {X : Type 0} (f : X → X) (none : X) (xs : List X) (x : X) → slice_get xs (length xs - 1) ≡ Some x → x ≡ last_of none xs
    → slice_get (change_last f xs) (length xs - 1) ≡ Some (f x)
get-last-changed f none [] x at is = absurd (cc)
get-last-changed f none (y ∷ ys) x at is = elim (last-at none (change_last f (y ∷ ys))) [
  | inl empty ↦ absurd (let n : length (change_last f (y ∷ ys)) ≡ 0 = ap length empty in let m = length-change f (y ∷ ys) in omega arith)
  | inr there ↦
      let index : length (change_last f (y ∷ ys)) - 1 ≡ length (y ∷ ys) - 1 = ap (λ n. n - 1) (length-change f (y ∷ ys)) in
      let last : last_of none (change_last f (y ∷ ys)) ≡ f (last_of none (y ∷ ys)) =
      elim (last-change f none none (y ∷ ys)) [ inl empty ↦ absurd (cc) | inr l ↦ l ] in
      ap (λ n. slice_get (change_last f (y ∷ ys)) n) (sym index) ∙ (there ∙ (ap (λ v. Some v) last ∙ ap (λ v. Some (f v)) (sym is)))
]

-- the last element of a list with one more
pub last-more : {X : Type 0} (none x : X) (xs : List X) → last_of none (xs ++ x ∷ []) ≡ x
last-more none x [] = refl
last-more none x (y ∷ xs) = last-more y x xs
