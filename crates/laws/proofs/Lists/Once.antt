-- Lists in which each number stands once: what adds to them, and what takes from them, keeps that.
use Rattle.std.proofs.Common.{ℕ, zero, suc, ◌≡◌, inl, inr, Bool, cond, List, [], ◌∷◌, ◌++◌, map, filter, Some, slice_get, refl, sym, ◌∙◌, ap, subst, arith}
use Rattle.std.proofs.lemmas.Bool.{cases_Bool}
use Rattle.laws.proofs.Lists.Elements.{get-split}
use Rattle.laws.proofs.Lists.Picks.{pick-filtered, pick-image}

-- No two elements have the same number.
abbrev pub Once : {X : Type 0} → (X → ℕ) → List X → Type 0
Once number xs = (m n : ℕ) (a b : _) → slice_get xs m ≡ Some a → slice_get xs n ≡ Some b → number a ≡ number b → m ≡ n

-- an element with a number of its own comes first
once-cons : {X : Type 0} (number : X → ℕ) (x : X) (xs : List X) → Once number xs → ((n : ℕ) (y : X) → slice_get xs n ≡ Some y → number x ≡ number y → ⊥)
    → Once number (x ∷ xs)
once-cons number x xs once new zero zero a b ata atb same = refl
once-cons number x xs once new zero (suc n) a b ata atb same = let is : x ≡ a = cc in absurd (new n b atb (ap number is ∙ same))
once-cons number x xs once new (suc m) zero a b ata atb same = let is : x ≡ b = cc in absurd (new m a ata (ap number is ∙ sym same))
once-cons number x xs once new (suc m) (suc n) a b ata atb same = ap suc (once m n a b ata atb same)

-- a filter takes elements out
pub once-filter : {X : Type 0} (number : X → ℕ) (p : X → Bool) (xs : List X) → Once number xs → Once number (filter p xs)
once-filter number p [] once = λ m n a b ata atb same. absurd (cc)
once-filter number p (x ∷ xs) once =
    let rest : Once number (filter p xs) =
    once-filter number p xs (λ m n a b ata atb same. let index : suc m ≡ suc n = once (suc m) (suc n) a b ata atb same in omega arith) in
    elim (cases_Bool (p x)) [
      | inl passes ↦ subst (λ (v : Bool). Once number (cond v (x ∷ filter p xs) (filter p xs))) (sym passes)
          (once-cons number x (filter p xs) rest (λ n y at same.
          let there = pick-filtered p xs n y at in
          let index : 0 ≡ suc there.0 = once 0 (suc there.0) x y refl there.1 same in
          omega arith))
      | inr fails ↦ subst (λ (v : Bool). Once number (cond v (x ∷ filter p xs) (filter p xs))) (sym fails) rest
    ]

-- the images of elements
pub once-map : {X Y : Type 0} (number : Y → ℕ) (f : X → Y) (xs : List X) → Once (λ x. number (f x)) xs → Once number (map f xs)
once-map number f xs once m n a b ata atb same =
    let x = pick-image f xs m a ata in
    let y = pick-image f xs n b atb in
    once m n x.0 y.0 x.1 y.1 (ap number x.2 ∙ (same ∙ ap number (sym y.2)))

-- two lists without a common number
pub once-append : {X : Type 0} (number : X → ℕ) (xs ys : List X) → Once number xs → Once number ys
    → ((m n : ℕ) (a b : X) → slice_get xs m ≡ Some a → slice_get ys n ≡ Some b → number a ≡ number b → ⊥) → Once number (xs ++ ys)
once-append number xs ys first second apart m n a b ata atb same = elim (get-split xs ys m a ata) [
  | inl old ↦ elim (get-split xs ys n b atb) [
    | inl old_too ↦ first m n a b old old_too same
    | inr new ↦ absurd (apart m new.0 a b old new.2 same)
  ]
  | inr new ↦ elim (get-split xs ys n b atb) [
    | inl old ↦ absurd (apart n new.0 b a old new.2 (sym same))
    | inr new_too ↦ let index = second new.0 new_too.0 a b new.2 new_too.2 same in let one = new.1 in let two = new_too.1 in omega arith
  ]
]
