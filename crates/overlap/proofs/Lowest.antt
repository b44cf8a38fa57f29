-- The lowest number of those that hold a block from `first` on.
use Rattle.std.proofs.Common.{ℕ, ◌≡◌, ◌<◌, ◌≤◌, ◌⊎◌, inl, inr, Bool, true, false, List, [], ◌∷◌, ◌++◌, Option, Some, None, refl, ap, ◌∙◌, arith}
use Rattle.std.specs.Prelude.{fold}
use Rattle.std.specs.List.{AllByRecursion}
use Rattle.std.proofs.lemmas.Bool.{cases_lt}
use Rattle.std.proofs.lemmas.Bool.Decides.{nat_tests}
use Rattle.overlap.specs.Holdings.{lower_of}
use Rattle.overlap.specs.Maps.{AreApart, EndsBefore, lowest_with, reaches}
use Rattle.overlap.specs.declared.held.Holder.{Holder}
use Rattle.overlap.proofs.Among.{Among}

step-none : (first : ℕ) (a : Option ℕ) (e : ℕ × Holder) → lowest_with first a e ≡ None → (a ≡ None) × (reaches first e ≡ false)
step-none first a e none = go (reaches first e) refl
  where
    go : (b : Bool) → reaches first e ≡ b → (a ≡ None) × (reaches first e ≡ false)
    go true is = let some = rw is at none in absurd (cc)
    go false is = (rw is at none, is)

pub fold-none : (first : ℕ) (a : Option ℕ) (bs : List (ℕ × Holder)) → fold (lowest_with first) a bs ≡ None
    → (a ≡ None) × ((e : ℕ × Holder) → Among e bs → reaches first e ≡ false)
fold-none first a [] none = (none, λ e among. absurd among)
fold-none first a (b ∷ bs) none =
    let rest = fold-none first (lowest_with first a b) bs none in
    let here = step-none first a b rest.0 in
    (here.0, λ e among. cases e here.1 rest.1 among)
  where
    cases : (e : ℕ × Holder) → reaches first b ≡ false → ((x : ℕ × Holder) → Among x bs → reaches first x ≡ false) → Among e (b ∷ bs) → reaches first e ≡ false
    cases e here rest (inl same) = rw same here
    cases e here rest (inr among) = rest e among

-- some holder of the list has the number n
abbrev pub HasNumber : ℕ → List (ℕ × Holder) → ℕ → Type 0
HasNumber first bs n = (e : ℕ × Holder) × Among e bs × (reaches first e ≡ true) × (e.1.number ≡ n)

lower-some : (a : Option ℕ) (number n : ℕ) → lower_of a number ≡ n → (a ≡ Some n) ⊎ (number ≡ n)
lower-some None number n is = inr is
lower-some (Some other) number n is = go (cases_lt other number)
  where
    go : (other < number) ⊎ (number ≤ other) → (Some other ≡ Some n) ⊎ (number ≡ n)
    go (inl below) = let same : other ≡ n = omega arith in inl (cc)
    go (inr above) = inr (omega arith)

step-some : (first : ℕ) (a : Option ℕ) (e : ℕ × Holder) (n : ℕ) → lowest_with first a e ≡ Some n → (a ≡ Some n) ⊎ ((reaches first e ≡ true) × (e.1.number ≡ n))
step-some first a e n some = go (reaches first e) refl
  where
    cases : reaches first e ≡ true → (a ≡ Some n) ⊎ (e.1.number ≡ n) → (a ≡ Some n) ⊎ ((reaches first e ≡ true) × (e.1.number ≡ n))
    cases is (inl before) = inl before
    cases is (inr here) = inr (is, here)

    go : (b : Bool) → reaches first e ≡ b → (a ≡ Some n) ⊎ ((reaches first e ≡ true) × (e.1.number ≡ n))
    go true is = let one = rw is at some in let same : lower_of a e.1.number ≡ n = cc in cases is (lower-some a e.1.number n same)
    go false is = inl (rw is at some)

pub fold-some : (first : ℕ) (a : Option ℕ) (bs : List (ℕ × Holder)) (n : ℕ) → fold (lowest_with first) a bs ≡ Some n → (a ≡ Some n) ⊎ HasNumber first bs n
fold-some first a [] n some = inl some
fold-some first a (b ∷ bs) n some = cases (fold-some first (lowest_with first a b) bs n some)
  where
    first_one : (a ≡ Some n) ⊎ ((reaches first b ≡ true) × (b.1.number ≡ n)) → (a ≡ Some n) ⊎ HasNumber first (b ∷ bs) n
    first_one (inl before) = inl before
    first_one (inr here) = inr (b, inl refl, here.0, here.1)

    cases : (lowest_with first a b ≡ Some n) ⊎ HasNumber first bs n → (a ≡ Some n) ⊎ HasNumber first (b ∷ bs) n
    cases (inl here) = first_one (step-some first a b n here)
    cases (inr rest) = inr (rest.0, inr rest.1, rest.2, rest.3)

lower-le : (a : Option ℕ) (number m : ℕ) → a ≡ Some m → lower_of a number ≤ m
lower-le None number m is = absurd (cc)
lower-le (Some other) number m is = let same : other ≡ m = cc in omega arith

lower-le_number : (a : Option ℕ) (number : ℕ) → lower_of a number ≤ number
lower-le_number None number = omega arith
lower-le_number (Some other) number = omega arith

pub fold-least : (first : ℕ) (a : Option ℕ) (bs : List (ℕ × Holder)) (n : ℕ) → fold (lowest_with first) a bs ≡ Some n
    → ((m : ℕ) → a ≡ Some m → n ≤ m) × ((e : ℕ × Holder) → Among e bs → reaches first e ≡ true → n ≤ e.1.number)
fold-least first a [] n some = (λ m is. let same : n ≡ m = cc in omega arith, λ e among. absurd among)
fold-least first a (b ∷ bs) n some =
    let rest = fold-least first (lowest_with first a b) bs n some in
    (λ m is. before rest.0 m is (reaches first b) refl, λ e among reached. cases rest.0 rest.1 e among reached)
  where
    before : ((m : ℕ) → lowest_with first a b ≡ Some m → n ≤ m) → (m : ℕ) → a ≡ Some m → (t : Bool) → reaches first b ≡ t → n ≤ m
    before below m is true reached = let le = below (lower_of a b.1.number) (rw reached refl) in omega (arith, le, lower-le a b.1.number m is)
    before below m is false short = below m (rw short is)

    cases : ((m : ℕ) → lowest_with first a b ≡ Some m → n ≤ m) → ((e : ℕ × Holder) → Among e bs → reaches first e ≡ true → n ≤ e.1.number)
        → (e : ℕ × Holder) → Among e (b ∷ bs) → reaches first e ≡ true → n ≤ e.1.number
    cases below rest e (inl same) reached =
        let here : reaches first b ≡ true = rw same at reached in
        let le = below (lower_of a b.1.number) (rw here refl) in
        rw same (omega (arith, le, lower-le_number a b.1.number))
    cases below rest e (inr among) reached = rest e among reached

-- Two holders may be looked at in either order.
lower-swap : (a : Option ℕ) (m n : ℕ) → lower_of (Some (lower_of a m)) n ≡ lower_of (Some (lower_of a n)) m
lower-swap None m n = omega arith
lower-swap (Some other) m n = omega arith

with-swap : (first : ℕ) (a : Option ℕ) (b e : ℕ × Holder) → lowest_with first (lowest_with first a b) e ≡ lowest_with first (lowest_with first a e) b
with-swap first a b e = go (reaches first b) (reaches first e) refl refl
  where
    go : (p q : Bool) → reaches first b ≡ p → reaches first e ≡ q → lowest_with first (lowest_with first a b) e ≡ lowest_with first (lowest_with first a e) b
    go true true here there = rw (here, there) (ap Some (lower-swap a b.1.number e.1.number))
    go true false here there = rw (here, there) refl
    go false true here there = rw (here, there) refl
    go false false here there = rw (here, there) refl

last-of : (b : ℕ × Holder) (t : List (ℕ × Holder)) (e : ℕ × Holder) → AllByRecursion (EndsBefore b) (t ++ e ∷ []) → EndsBefore b e
last-of b [] e all = all.0
last-of b (x ∷ t) e all = last-of b t e all.1

front-of : (b : ℕ × Holder) (t : List (ℕ × Holder)) (e : ℕ × Holder) → AllByRecursion (EndsBefore b) (t ++ e ∷ []) → AllByRecursion (EndsBefore b) t
front-of b [] e all = tt
front-of b (x ∷ t) e all = (all.0, front-of b t e all.1)

-- So the last may be looked at first.
pub fold-last : (first : ℕ) (a : Option ℕ) (t : List (ℕ × Holder)) (e : ℕ × Holder)
    → fold (lowest_with first) a (t ++ e ∷ []) ≡ fold (lowest_with first) (lowest_with first a e) t
fold-last first a [] e = refl
fold-last first a (b ∷ t) e = fold-last first (lowest_with first a b) t e ∙ ap (λ o. fold (lowest_with first) o t) (with-swap first a b e)

-- Those that end before one that begins at or before `first` have no block from there on.
pub fold-short : (first : ℕ) (a : Option ℕ) (t : List (ℕ × Holder)) (e : ℕ × Holder) → AreApart (t ++ e ∷ []) → e.0 ≤ first → fold (lowest_with first) a t ≡ a
fold-short first a [] e apart low = refl
fold-short first a (b ∷ t) e apart low =
    let before = last-of b t e apart.0 in
    let short : reaches first b ≡ false = grind (arith, nat_tests, before.0, before.1, low) in
    rw short (fold-short first a t e apart.1 low)

-- the holdings but the last are apart too
pub apart-front : (t : List (ℕ × Holder)) (e : ℕ × Holder) → AreApart (t ++ e ∷ []) → AreApart t
apart-front [] e apart = tt
apart-front (b ∷ t) e apart = (front-of b t e apart.0, apart-front t e apart.1)
