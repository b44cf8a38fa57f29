-- What tests pick from a list: an element that passes, where some does, and what a filter lets through.
use Rattle.std.proofs.Common.{ℕ, zero, suc, ◌≡◌, ◌<◌, inl, inr, Bool, true, false, cond, List, [], ◌∷◌, Some, slice_get, refl, sym, ◌∙◌, ap, subst, arith}
use Rattle.std.proofs.Common.{length, filter, nat_lt}
use Rattle.std.specs.Prelude.{map, filter, find, is_some}
use Rattle.std.specs.List.{list_any}
use Rattle.std.proofs.lemmas.Bool.{cases_Bool, cases_lt, or_cases, or_left, or_right, both_ways, false_from_ne_true, or_from, lt-ltb}
use Rattle.model.specs.Stream.{below}
use Rattle.laws.proofs.Lists.Elements.{get-left, get-more, get-end}
use Rattle.std.proofs.lemmas.Option.{slice_get_within}

-- where some element passes, one stands there that does
pub pick-any : {X : Type 0} (p : X → Bool) (xs : List X) → list_any p xs ≡ true → (n : ℕ) × (x : X) × (slice_get xs n ≡ Some x) × (p x ≡ true)
pick-any p [] h = absurd (cc)
pick-any p (x ∷ xs) h = elim (or_cases (p x) (list_any p xs) h) [
  | inl here ↦ (0, x, refl, here)
  | inr later ↦ let rest = pick-any p xs later in (suc rest.0, rest.1, rest.2, rest.3)
]

-- where one stands that passes, some element does
pub any-pick : {X : Type 0} (p : X → Bool) (xs : List X) (n : ℕ) (x : X) → slice_get xs n ≡ Some x → p x ≡ true → list_any p xs ≡ true
any-pick p [] n x at passes = absurd (cc)
any-pick p (y ∷ xs) zero x at passes = let same : y ≡ x = cc in or_left (p y) (list_any p xs) (rw same passes)
any-pick p (y ∷ xs) (suc n) x at passes = or_right (p y) (list_any p xs) (any-pick p xs n x at passes)

-- where none passes, none that stands there does
pub pick-none : {X : Type 0} (p : X → Bool) (xs : List X) (n : ℕ) (x : X) → list_any p xs ≡ false → slice_get xs n ≡ Some x → p x ≡ false
pick-none p xs n x none at = false_from_ne_true (p x) (λ passes. both_ways (list_any p xs) none (any-pick p xs n x at passes))

-- a test that no value passes
pub any-none : {X : Type 0} (p : X → Bool) (xs : List X) → ((x : X) → p x ≡ false) → list_any p xs ≡ false
any-none p [] none = refl
any-none p (x ∷ xs) none = or_from (p x) (list_any p xs) (none x) (any-none p xs none)

-- what a search finds stands there, and passes
pub pick-found : {X : Type 0} (p : X → Bool) (xs : List X) (x : X) → find p xs ≡ Some x → (n : ℕ) × (slice_get xs n ≡ Some x) × (p x ≡ true)
pick-found p [] x is = absurd (cc)
pick-found p (y ∷ xs) x is = elim (cases_Bool (p y)) [
  | inl passes ↦
      let found : Some y ≡ Some x = ap (λ b. cond b (Some y) (find p xs)) (sym passes) ∙ is in
      let same : y ≡ x = cc in
      (0, ap (λ z. Some z) same, rw (← same) passes)
  | inr fails ↦ let rest = pick-found p xs x (ap (λ b. cond b (Some y) (find p xs)) (sym fails) ∙ is) in (suc rest.0, rest.1, rest.2)
]

-- what a search finds passes
pub found-passes : {X : Type 0} (p : X → Bool) (xs : List X) (x : X) → find p xs ≡ Some x → p x ≡ true
found-passes p xs x found = (pick-found p xs x found).2

-- what a filter lets through stands in the list, and passes
pub pick-filtered : {X : Type 0} (p : X → Bool) (xs : List X) (n : ℕ) (x : X) → slice_get (filter p xs) n ≡ Some x
    → (i : ℕ) × (slice_get xs i ≡ Some x) × (p x ≡ true)
pick-filtered p [] n x at = absurd (cc)
pick-filtered p (y ∷ xs) n x at = elim (cases_Bool (p y)) [
  | inl passes ↦ first p y xs n x passes (subst (λ b. slice_get (cond b (y ∷ filter p xs) (filter p xs)) n ≡ Some x) passes at)
      (λ m there. pick-filtered p xs m x there)
  | inr fails ↦ let rest = pick-filtered p xs n x (subst (λ b. slice_get (cond b (y ∷ filter p xs) (filter p xs)) n ≡ Some x) fails at) in (
    suc rest.0,
    rest.1,
    rest.2,
  )
]
  where
    first : {X : Type 0} (p : X → Bool) (y : X) (xs : List X) (m : ℕ) (x : X) → p y ≡ true → slice_get (y ∷ filter p xs) m ≡ Some x
        → ((n : ℕ) → slice_get (filter p xs) n ≡ Some x → (i : ℕ) × (slice_get xs i ≡ Some x) × (p x ≡ true))
        → (i : ℕ) × (slice_get (y ∷ xs) i ≡ Some x) × (p x ≡ true)
    first p y xs zero x passes at rest = let same : y ≡ x = cc in (0, at, rw (← same) passes)
    first p y xs (suc m) x passes at rest = let found = rest m at in (suc found.0, found.1, found.2)

-- what stands in the list and passes is let through
pub filtered-pick : {X : Type 0} (p : X → Bool) (xs : List X) (i : ℕ) (x : X) → slice_get xs i ≡ Some x → p x ≡ true
    → (n : ℕ) × (slice_get (filter p xs) n ≡ Some x)
filtered-pick p [] i x at passes = absurd (cc)
filtered-pick p (y ∷ xs) zero x at passes =
    let same : y ≡ x = cc in
    let here : p y ≡ true = rw same passes in
    (0, ap (λ b. slice_get (cond b (y ∷ filter p xs) (filter p xs)) 0) here ∙ ap (λ z. Some z) same)
filtered-pick p (y ∷ xs) (suc i) x at passes =
    let rest = filtered-pick p xs i x at passes in
    elim (cases_Bool (p y)) [
      | inl first ↦ (suc rest.0, ap (λ b. slice_get (cond b (y ∷ filter p xs) (filter p xs)) (suc rest.0)) first ∙ rest.1)
      | inr fails ↦ (rest.0, ap (λ b. slice_get (cond b (y ∷ filter p xs) (filter p xs)) rest.0) fails ∙ rest.1)
    ]

-- where one stands that passes both, some element that the filter lets through passes
pub any-filtered : {X : Type 0} (p q : X → Bool) (xs : List X) (i : ℕ) (x : X) → slice_get xs i ≡ Some x → q x ≡ true → p x ≡ true
    → list_any p (filter q xs) ≡ true
any-filtered p q xs i x at passes found = let there = filtered-pick q xs i x at passes in any-pick p (filter q xs) there.0 x there.1 found

-- what a search finds among those that a filter lets through passes the filter
pub found-filtered : {X : Type 0} (q p : X → Bool) (xs : List X) (x : X) → find q (filter p xs) ≡ Some x → p x ≡ true
found-filtered q p xs x is = let found = pick-found q (filter p xs) x is in (pick-filtered p xs found.0 x found.1).2

-- a filter that no value passes lets nothing through
pub none-passes : {X : Type 0} (p : X → Bool) (xs : List X) → ((x : X) → p x ≡ false) → length (filter p xs) ≡ 0
none-passes p [] none = refl
none-passes p (x ∷ xs) none = subst (λ b. length (cond b (x ∷ filter p xs) (filter p xs)) ≡ 0) (sym (none x)) (none-passes p xs none)

-- what stands in a list of images is the image of what stands there
pub pick-image : {X Y : Type 0} (f : X → Y) (xs : List X) (n : ℕ) (y : Y) → slice_get (map f xs) n ≡ Some y → (x : X) × (slice_get xs n ≡ Some x) × (f x ≡ y)
pick-image f [] n y at = absurd (cc)
pick-image f (x ∷ xs) zero y at = (x, refl, let e : f x ≡ y = cc in e)
pick-image f (x ∷ xs) (suc n) y at = pick-image f xs n y at

-- the numbers below a number are below it
pub pick-below : (n i x : ℕ) → slice_get (below n) i ≡ Some x → x < n
pick-below zero i x at = absurd (cc)
pick-below (suc n) i x at = elim (get-more (below n) n i x at) [
  | inl old ↦ let less = pick-below n i x old in omega arith
  | inr new ↦ let is =
      new.1 in omega arith
]

-- each number below another is one of those below it
pub below-has : (n k : ℕ) → k < n → (i : ℕ) × (slice_get (below n) i ≡ Some k)
below-has zero k less = absurd (omega arith)
below-has (suc n) k less = elim (cases_lt k n) [
  | inl lower ↦ let rest = below-has n k lower in (rest.0, get-left (below n) (n ∷ []) rest.0 k rest.1)
  | inr top ↦ let is : n ≡ k = omega arith in (length (below n), get-end (below n) n ∙ ap (λ (m : ℕ). Some m) is)
]

-- a list of no length has no element
pub none-short : {X : Type 0} (xs : List X) (n : ℕ) (x : X) → nat_lt 0 (length xs) ≡ false → slice_get xs n ≡ Some x → ⊥
none-short xs n x short at = both_ways (nat_lt 0 (length xs)) short (lt-ltb 0 (length xs) (let within = slice_get_within xs n x at in omega arith))

-- a list whose first element is none has no element
pub none-first : {X Y : Type 0} (f : X → Y) (xs : List X) (n : ℕ) (x : X) → is_some (slice_get (map f xs) 0) ≡ false → slice_get xs n ≡ Some x → ⊥
none-first f [] n x none at = absurd (cc)
none-first f (y ∷ xs) n x none at = absurd (cc)
