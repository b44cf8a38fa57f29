-- The front of a list: its first so many elements, and the first one that passes a test.
use Rattle.std.proofs.Common.{ℕ, zero, suc, ◌≡◌, ◌<◌, Bool, true, false, cond, List, [], ◌∷◌, length, take, map, Some, slice_get, refl, sym, ◌∙◌, ap, subst}
use Rattle.std.proofs.Common.{arith}
use Rattle.std.specs.Prelude.{find}
use Rattle.std.specs.List.{list_all}
use Rattle.std.proofs.lemmas.Bool.{and_from, and_parts}
use Rattle.std.proofs.lemmas.List.{take-map}
use Rattle.std.proofs.Math.Seq.{take-append_seam}
use Rattle.model.specs.Stream.{IsBeginning}
use Rattle.laws.proofs.Lists.Beginnings.{begins-take, begins-trans, begins-map}

-- what stands in the front stands in the list, before its end
pub get-front : {X : Type 0} (n : ℕ) (xs : List X) (k : ℕ) (x : X) → slice_get (take n xs) k ≡ Some x → (k < n) × (slice_get xs k ≡ Some x)
get-front zero xs k x at = absurd (cc)
get-front (suc n) [] k x at = absurd (cc)
get-front (suc n) (y ∷ xs) zero x at = (omega arith, at)
get-front (suc n) (y ∷ xs) (suc k) x at = let rest = get-front n xs k x at in let less = rest.0 in (omega arith, rest.1)

-- the other way
pub front-get : {X : Type 0} (n : ℕ) (xs : List X) (k : ℕ) (x : X) → k < n → slice_get xs k ≡ Some x → slice_get (take n xs) k ≡ Some x
front-get zero xs k x less at = absurd (omega arith)
front-get (suc n) [] k x less at = absurd (cc)
front-get (suc n) (y ∷ xs) zero x less at = at
front-get (suc n) (y ∷ xs) (suc k) x less at = front-get n xs k x (omega arith) at

-- a list is the front of each list that it begins
pub begins-front : {X : Type 0} (xs ys : List X) → IsBeginning xs ys → xs ≡ take (length xs) ys
begins-front xs ys b = sym (take-append_seam xs b.0) ∙ ap (take (length xs)) b.1

-- the same of the images of a front
pub begins-image : {X Y : Type 0} (f : X → Y) (n : ℕ) (xs : List Y) (ys : List X) → IsBeginning xs (map f (take n ys)) → xs ≡ map f (take (length xs) ys)
begins-image f n xs ys b = begins-front xs (map f ys) (begins-trans xs (map f (take n ys)) (map f ys) b (begins-map f (take n ys) ys (begins-take n ys)))
    ∙ take-map f (length xs) ys

-- a test that each element passes
pub all-get : {X : Type 0} (p : X → Bool) (xs : List X) → ((k : ℕ) (x : X) → slice_get xs k ≡ Some x → p x ≡ true) → list_all p xs ≡ true
all-get p [] each = refl
all-get p (x ∷ xs) each = and_from (p x) (list_all p xs) (each 0 x refl) (all-get p xs (λ k y at. each (suc k) y at))

-- the first element that passes is found
pub find-first : {X : Type 0} (p : X → Bool) (xs : List X) (k : ℕ) (x : X) → slice_get xs k ≡ Some x → p x ≡ true
    → ((j : ℕ) (y : X) → j < k → slice_get xs j ≡ Some y → p y ≡ false) → find p xs ≡ Some x
find-first p [] k x at passes before = absurd (cc)
find-first p (y ∷ xs) zero x at passes before =
    let same : y ≡ x = cc in
    let here : p y ≡ true = subst (λ z. p z ≡ true) (sym same) passes in
    ap (λ b. cond b (Some y) (find p xs)) here ∙ ap (λ z. Some z) same
find-first p (y ∷ xs) (suc k) x at passes before =
    ap (λ b. cond b (Some y) (find p xs)) (before 0 y (omega arith) refl)
    ∙ find-first p xs k x at passes (λ j z less there. before (suc j) z (omega arith) there)

-- what all of a list pass, each of it does
pub all-at : {X : Type 0} (p : X → Bool) (xs : List X) (n : ℕ) (x : X) → list_all p xs ≡ true → slice_get xs n ≡ Some x → p x ≡ true
all-at p [] n x all at = absurd (cc)
all-at p (y ∷ xs) zero x all at = let same : y ≡ x = cc in subst (λ z. p z ≡ true) same (and_parts (p y) (list_all p xs) all).0
all-at p (y ∷ xs) (suc n) x all at = all-at p xs n x (and_parts (p y) (list_all p xs) all).1 at
