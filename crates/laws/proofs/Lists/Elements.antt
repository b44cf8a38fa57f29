-- What stands where in a list, and in a list that goes on.
use Rattle.std.proofs.Common.{ℕ, zero, suc, ◌≡◌, ◌+◌, ◌⊎◌, inl, inr, List, [], ◌∷◌, ◌++◌, length, Some, slice_get, refl, sym, ◌∙◌, arith, ◌<◌}

-- what stands in a list stands there in a longer one
pub get-left : {X : Type 0} (xs ys : List X) (k : ℕ) (x : X) → slice_get xs k ≡ Some x → slice_get (xs ++ ys) k ≡ Some x
get-left [] ys k x at = absurd (cc)
get-left (y ∷ xs) ys zero x at = at
get-left (y ∷ xs) ys (suc k) x at = get-left xs ys k x at

-- an element of a list with one more is an old one, or the one at its end
pub get-more : {X : Type 0} (xs : List X) (y : X) (k : ℕ) (x : X) → slice_get (xs ++ y ∷ []) k ≡ Some x
    → (slice_get xs k ≡ Some x) ⊎ ((k ≡ length xs) × (x ≡ y))
get-more [] y zero x at = inr (refl, let e : y ≡ x = cc in sym e)
get-more [] y (suc k) x at = absurd (cc)
get-more (z ∷ xs) y zero x at = inl at
get-more (z ∷ xs) y (suc k) x at = elim (get-more xs y k x at) [ inl old ↦ inl old | inr new ↦ inr (let n = new.0 in omega arith, new.1) ]

-- the one more stands at the end
pub get-end : {X : Type 0} (xs : List X) (y : X) → slice_get (xs ++ y ∷ []) (length xs) ≡ Some y
get-end [] y = refl
get-end (x ∷ xs) y = get-end xs y

-- an element of a joined list is in the front, or in what follows it
pub get-split : {X : Type 0} (xs ys : List X) (k : ℕ) (x : X) → slice_get (xs ++ ys) k ≡ Some x
    → (slice_get xs k ≡ Some x) ⊎ ((n : ℕ) × (k ≡ length xs + n) × (slice_get ys n ≡ Some x))
get-split [] ys k x at = inr (k, omega arith, at)
get-split (z ∷ xs) ys zero x at = inl at
get-split (z ∷ xs) ys (suc k) x at = elim (get-split xs ys k x at) [ inl old ↦ inl old | inr new ↦ inr (new.0, let n = new.1 in omega arith, new.2) ]

-- two readings of a list at one index are one
pub same-at : {X : Type 0} (xs : List X) (k : ℕ) (x y : X) → slice_get xs k ≡ Some x → slice_get xs k ≡ Some y → x ≡ y
same-at xs k x y a b = let e : Some x ≡ Some y = sym a ∙ b in cc

-- A place within a list has an element.
pub get-there : {X : Type 0} (xs : List X) (n : ℕ) → n < length xs → (x : X) × (slice_get xs n ≡ Some x)
get-there [] n within = absurd (omega arith)
get-there (x ∷ xs) zero within = (x, refl)
get-there (x ∷ xs) (suc n) within = get-there xs n (omega arith)

-- a list that is empty with more is empty
pub append-empty : {X : Type 0} (xs ys : List X) → xs ++ ys ≡ [] → xs ≡ []
append-empty [] ys h = refl
append-empty (x ∷ xs) ys h = absurd (cc)

-- a list with one more is not empty
pub append-one : {X : Type 0} (xs : List X) (x : X) → xs ++ x ∷ [] ≡ [] → ⊥
append-one [] x h = cc
append-one (y ∷ xs) x h = cc
