-- The first marked block that is free, by what is before it.
use Rattle.std.proofs.Common.{ℕ, zero, suc, ◌≡◌, ◌<◌, ◌≤◌, ◌+◌, ◌⊎◌, inl, inr, Bool, true, false, ◌&&◌, nat_le, List, [], ◌∷◌, Some, None, length, refl, sym}
use Rattle.std.proofs.Common.{◌∙◌, arith}
use Rattle.std.specs.Prelude.{filter, find, is_none}
use Rattle.std.proofs.lemmas.Bool.{cases_lt, le-leb, and_right}
use Rattle.std.proofs.lemmas.Bool.Decides.{nat_tests}
use Rattle.blocks.specs.Ranges.{below, is_between}
use Rattle.bitmap.specs.Marks.{marked}
use Rattle.bitmap.proofs.Below.{find-below_none, find-below_some}
use Rattle.overlap.specs.Holdings.{Holding, conflict, meets}
use Rattle.resync.specs.Next.{is_free, next_block}

-- a filter before a search
pub find-filter : (p q : ℕ → Bool) (xs : List ℕ) → find p (filter q xs) ≡ find (λ x. q x && p x) xs
find-filter p q [] = refl
find-filter p q (x ∷ xs) = go (find-filter p q xs) (q x) (p x) refl refl
  where
    go : find p (filter q xs) ≡ find (λ y. q y && p y) xs → (a b : Bool) → q x ≡ a → p x ≡ b → find p (filter q (x ∷ xs)) ≡ find (λ y. q y && p y) (x ∷ xs)
    go rest true true a b = rw (a, b) refl
    go rest true false a b = rw (a, b) rest
    go rest false b a _ = rw a rest

pub next-some : (marks : List Bool) (held : List Holding) (b : ℕ) → b < length marks → marked marks b ≡ true → is_free held b ≡ true
    → ((k : ℕ) → k < b → (marked marks k && is_free held k) ≡ false) → Some b ≡ next_block marks held
next-some marks held b within is free before =
    sym (find-filter (is_free held) (marked marks) (below (length marks))
    ∙ find-below_some (λ k. marked marks k && is_free held k) (length marks) b within (rw (is, free) refl) before)

pub next-none : (marks : List Bool) (held : List Holding) → ((k : ℕ) → k < length marks → (marked marks k && is_free held k) ≡ false)
    → None ≡ next_block marks held
next-none marks held before =
    sym (find-filter (is_free held) (marked marks) (below (length marks)) ∙ find-below_none (λ k. marked marks k && is_free held k) (length marks) before)

-- what a search below a bound tells
pub record IsFirst (p : ℕ → Bool) (n b : ℕ) : Type 0 where
  pub within : b < n
  pub passes : p b ≡ true
  pub first : (k : ℕ) → k < b → p k ≡ false

-- either some number is the first, or none passes
pub first_or_none : (p : ℕ → Bool) (n : ℕ) → ((b : ℕ) × IsFirst p n b) ⊎ ((k : ℕ) → k < n → p k ≡ false)
first_or_none p zero = inr (λ k h. absurd (omega arith))
first_or_none p (suc n) = go (first_or_none p n)
  where
    last : ((k : ℕ) → k < n → p k ≡ false) → (b : Bool) → p n ≡ b → ((b : ℕ) × IsFirst p (suc n) b) ⊎ ((k : ℕ) → k < suc n → p k ≡ false)
    last none true is = inl (n, record { within = omega arith; passes = is; first = none })
    last none false is = inr (λ k h. each k h (cases_lt k n))
      where
        each : (k : ℕ) → k < suc n → (k < n) ⊎ (n ≤ k) → p k ≡ false
        each k h (inl before) = none k before
        each k h (inr there) = let same : k ≡ n = omega arith in rw same is

    go : ((b : ℕ) × IsFirst p n b) ⊎ ((k : ℕ) → k < n → p k ≡ false) → ((b : ℕ) × IsFirst p (suc n) b) ⊎ ((k : ℕ) → k < suc n → p k ≡ false)
    go (inl found) = inl (found.0, record { within = omega (arith, found.1.within); passes = found.1.passes; first = found.1.first })
    go (inr none) = last none (p n) refl

pub found_below : (p : ℕ → Bool) (n b : ℕ) → Some b ≡ find p (below n) → IsFirst p n b
found_below p n b is = go (first_or_none p n)
  where
    go : ((b : ℕ) × IsFirst p n b) ⊎ ((k : ℕ) → k < n → p k ≡ false) → IsFirst p n b
    go (inl found) =
        let there = find-below_some p n found.0 found.1.within found.1.passes found.1.first in
        let same : found.0 ≡ b = cc in
        rw (← same) found.1
    go (inr none) = let nothing = find-below_none p n none in absurd (cc)

pub none_below : (p : ℕ → Bool) (n : ℕ) → None ≡ find p (below n) → (k : ℕ) → k < n → p k ≡ false
none_below p n is k within = go (first_or_none p n)
  where
    go : ((b : ℕ) × IsFirst p n b) ⊎ ((k : ℕ) → k < n → p k ≡ false) → p k ≡ false
    go (inl found) = let there = find-below_some p n found.0 found.1.within found.1.passes found.1.first in absurd (cc)
    go (inr none) = none k within

-- a block that no holding has is free
covers : (block : ℕ) (h : Holding) → is_between h.first h.count block ≡ meets block 1 h
covers block h = grind (arith, nat_tests)

pub free-conflict : (held : List Holding) (block : ℕ) → is_free held block ≡ is_none (conflict block 1 held)
free-conflict [] block = refl
free-conflict (h ∷ held) block = go (free-conflict held block) (meets block 1 h) refl
  where
    go : is_free held block ≡ is_none (conflict block 1 held) → (b : Bool) → meets block 1 h ≡ b
        → is_free (h ∷ held) block ≡ is_none (conflict block 1 (h ∷ held))
    go rest true is = rw (covers block h, is) refl
    go rest false is = rw (covers block h, is) rest

-- whether a block is marked and free
abbrev pub is_next : List Bool → List Holding → ℕ → Bool
is_next marks held k = marked marks k && is_free held k

-- None is next before the first marked block from one on, where none is before that one.
pub none_before : (marks : List Bool) (held : List Holding) (from b : ℕ) → ((k : ℕ) → k < from → is_next marks held k ≡ false)
    → ((k : ℕ) → k < b → (nat_le from k && marked marks k) ≡ false) → (k : ℕ) → k < b → is_next marks held k ≡ false
none_before marks held from b before first k within = go (cases_lt k from)
  where
    go : (k < from) ⊎ (from ≤ k) → is_next marks held k ≡ false
    go (inl h) = before k h
    go (inr h) =
        let reach : nat_le from k ≡ true = le-leb from k h in
        let off : marked marks k ≡ false = rw reach at (first k within) in
        rw off refl

-- and not at it either, where it is held
pub none_up_to : (marks : List Bool) (held : List Holding) (b : ℕ) → ((k : ℕ) → k < b → is_next marks held k ≡ false) → is_free held b ≡ false → (k : ℕ)
    → k < b + 1 → is_next marks held k ≡ false
none_up_to marks held b before taken k within = go (cases_lt k b)
  where
    go : (k < b) ⊎ (b ≤ k) → is_next marks held k ≡ false
    go (inl h) = before k h
    go (inr h) = let same : k ≡ b = omega arith in rw (same, taken) (and_right (marked marks b) false refl)
