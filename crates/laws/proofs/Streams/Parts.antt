-- Parts of a stream as they grow.
use Rattle.std.proofs.Common.{ℕ, zero, suc, Some, slice_get, ap, ◌≡◌, ◌<◌, inl, inr, Bool, true, false, ◌&&◌, ◌||◌, List, [], ◌∷◌, ◌++◌, length, refl}
use Rattle.std.proofs.Common.{◌∙◌, arith, ◌==◌, sym}
use Rattle.std.specs.List.{list_all}
use Rattle.std.proofs.lemmas.Bool.{or_cases, or_left, and_parts, and_from, eqb-true, eq-eqb, cases_Bool, both_ways, false_from_ne_true}
use Rattle.std.proofs.lemmas.List.Folds.{list_any-append, list_all-append}
use Rattle.model.specs.Stream.{StreamItem, Part, is_in, is_whole, below, contents_of}
use Rattle.model.specs.SecondarySteps.{offsets_at}

-- what is in a joined part is in the one or the other
pub in-append : (a b : Part) (place offset : ℕ) → is_in (a ++ b) place offset ≡ (is_in a place offset || is_in b place offset)
in-append a b place offset = list_any-append (λ pair. (pair.0 == place) && (pair.1 == offset)) a b

-- what is in a part stays in it as it grows
pub in-grows : (a b : Part) (place offset : ℕ) → is_in a place offset ≡ true → is_in (a ++ b) place offset ≡ true
in-grows a b place offset h = in-append a b place offset ∙ or_left (is_in a place offset) (is_in b place offset) h

-- offsets of an item are at its place
pub in-offsets : (place : ℕ) (offsets : List ℕ) (other offset : ℕ) → is_in (offsets_at place offsets) other offset ≡ true → place ≡ other
in-offsets place [] other offset h = absurd (cc)
in-offsets place (x ∷ offsets) other offset h =
    elim (or_cases ((place == other) && (x == offset)) (is_in (offsets_at place offsets) other offset) h) [
      | inl here ↦ eqb-true place other (and_parts (place == other) (x == offset) here).0
      | inr later ↦ in-offsets place offsets other offset later
    ]

-- and are among those offsets
pub in-offsets-listed : (place : ℕ) (offsets : List ℕ) (other offset : ℕ) → is_in (offsets_at place offsets) other offset ≡ true
    → (n : ℕ) × (slice_get offsets n ≡ Some offset)
in-offsets-listed place [] other offset h = absurd (cc)
in-offsets-listed place (x ∷ offsets) other offset h =
    elim (or_cases ((place == other) && (x == offset)) (is_in (offsets_at place offsets) other offset) h) [
      | inl here ↦ let same : x ≡ offset = eqb-true x offset (and_parts (place == other) (x == offset) here).1 in (0, ap (λ (n : ℕ). Some n) same)
      | inr later ↦ let rest = in-offsets-listed place offsets other offset later in (suc rest.0, rest.1)
    ]

-- an item that was whole stays so
all-grows : (a b : Part) (place : ℕ) (offsets : List ℕ) → list_all (λ offset. is_in a place offset) offsets ≡ true
    → list_all (λ offset. is_in (a ++ b) place offset) offsets ≡ true
all-grows a b place [] h = refl
all-grows a b place (x ∷ offsets) h =
    let parts = and_parts (is_in a place x) (list_all (λ offset. is_in a place offset) offsets) h in
    and_from (is_in (a ++ b) place x) (list_all (λ offset. is_in (a ++ b) place offset) offsets) (in-grows a b place x parts.0)
    (all-grows a b place offsets parts.1)

-- an item that is whole stays whole
pub whole-grows : (a b : Part) (place : ℕ) (item : StreamItem) → is_whole a place item ≡ true → is_whole (a ++ b) place item ≡ true
whole-grows a b place item h = all-grows a b place (below (length (contents_of item))) h

-- what all numbers below a number pass, each of them does
pub all-below : (p : ℕ → Bool) (n k : ℕ) → list_all p (below n) ≡ true → k < n → p k ≡ true
all-below p zero k h less = absurd (omega arith)
all-below p (suc n) k h less =
    let parts = and_parts (list_all p (below n)) (list_all p (n ∷ [])) (sym (list_all-append p (below n) (n ∷ [])) ∙ h) in
    elim (cases_Bool (k == n)) [
      | inl same ↦ rw (eqb-true k n same) (and_parts (p n) true parts.1).0
      | inr other ↦ all-below p n k parts.0 (let ne : k ≡ n → ⊥ = λ e. both_ways (k == n) other (eq-eqb k n e) in omega arith)
    ]

-- each block of an item that is whole is in the part
pub whole-has : (part : Part) (place offset : ℕ) (item : StreamItem) → is_whole part place item ≡ true → offset < length (contents_of item)
    → is_in part place offset ≡ true
whole-has part place offset item h less = all-below (λ o. is_in part place o) (length (contents_of item)) offset h less

-- the other way: an item is whole if each offset is in
all-from : (p : ℕ → Bool) (n : ℕ) → ((k : ℕ) → k < n → p k ≡ true) → list_all p (below n) ≡ true
all-from p zero h = refl
all-from p (suc n) h =
    list_all-append p (below n) (n ∷ [])
    ∙ and_from (list_all p (below n)) (list_all p (n ∷ [])) (all-from p n (λ k less. h k (omega arith))) (and_from (p n) true (h n (omega arith)) refl)

-- an item all of whose blocks are in the part is whole
pub whole-from : (part : Part) (place : ℕ) (item : StreamItem) → ((offset : ℕ) → offset < length (contents_of item) → is_in part place offset ≡ true)
    → is_whole part place item ≡ true
whole-from part place item h = all-from (λ o. is_in part place o) (length (contents_of item)) h

-- a part more at one place leaves the other items as they were
pub whole-elsewhere : (part : Part) (place : ℕ) (offsets : List ℕ) (other : ℕ) (item : StreamItem) → (other == place) ≡ false
    → is_whole (part ++ offsets_at place offsets) other item ≡ is_whole part other item
whole-elsewhere part place offsets other item apart = go (below (length (contents_of item)))
  where
    same : (offset : ℕ) → is_in (part ++ offsets_at place offsets) other offset ≡ is_in part other offset
    same offset = in-append part (offsets_at place offsets) other offset
        ∙ or-no (is_in part other offset) (is_in (offsets_at place offsets) other offset)
        (false_from_ne_true (is_in (offsets_at place offsets) other offset) (λ inside.
        both_ways (other == place) apart (eq-eqb other place (sym (in-offsets place offsets other offset inside)))))
      where
        or-no : (a b : Bool) → b ≡ false → (a || b) ≡ a
        or-no true b none = refl
        or-no false b none = none

    go : (ks : List ℕ) → list_all (λ offset. is_in (part ++ offsets_at place offsets) other offset) ks ≡ list_all (λ offset. is_in part other offset) ks
    go [] = refl
    go (x ∷ ks) = λ i. same x i && go ks i
