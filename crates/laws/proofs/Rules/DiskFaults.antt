-- What a fault of the peer's disk drops: that item and the pending ones of later epochs. What of the item reached the disk is applied.
use Rattle.std.proofs.Common.{ℕ, ◌≡◌, ◌+◌, ◌≤◌, ◌<◌, ◌⊎◌, inl, inr, Bool, true, false, not, ◌&&◌, ◌||◌, List, ◌∷◌, ◌++◌, length, map, filter, Option, Some}
use Rattle.std.proofs.Common.{None, slice_get, refl, sym, ◌∙◌, ap, subst, arith, ◌==◌, nat_lt, nat_le}
use Rattle.std.specs.List.{list_any}
use Rattle.std.proofs.lemmas.Bool.{cases_Bool, both_ways, and_parts, and_from, or_cases, eqb-true, ltb-true, false_from_ne_true}
use Rattle.std.proofs.lemmas.Bool.Decides.{nat_tests}
use Rattle.std.proofs.lemmas.List.Folds.{list_any-append}
use Rattle.model.specs.Stream.{StreamItem, is_whole, contents_of, has_blocks, epoch_of, placed, within}
use Rattle.model.specs.Secondary.{SecondaryConnection, items_taken, is_pending, pending}
use Rattle.model.specs.SecondarySteps.{failing, blocks_at, offsets_at}
use Rattle.laws.proofs.Lists.Elements.{same-at}
use Rattle.laws.proofs.Lists.Picks.{pick-any, pick-image, pick-filtered}
use Rattle.laws.proofs.Streams.Parts.{whole-elsewhere}
use Rattle.laws.proofs.Streams.Places.{listed-at, placed-back}

-- What is applied.

-- the offsets of the item at a place that reach the disk
pub reached : ℕ → List ℕ → SecondaryConnection → List ℕ
reached place offsets d = within (blocks_at (items_taken d) place) offsets

-- they are applied
pub fault-applied : (place : ℕ) (offsets : List ℕ) (d : SecondaryConnection)
    → (failing place offsets d).applied ≡ d.applied ++ offsets_at place (reached place offsets d)
unfolding reached
fault-applied place offsets d = refl

-- of an item that was taken they are the offsets that it has
pub reached-is : (place : ℕ) (offsets : List ℕ) (d : SecondaryConnection) (item : StreamItem) → slice_get (items_taken d) place ≡ Some item
    → reached place offsets d ≡ within (length (contents_of item)) offsets
unfolding reached
reached-is place offsets d item at =
    ap (λ (v : Option StreamItem). within (elim v as (λ _. ℕ) [ None ↦ 0 | Some one ↦ length (contents_of one) ]) offsets) at

-- each of them is one of its blocks
pub reached-inside : (place : ℕ) (offsets : List ℕ) (d : SecondaryConnection) (item : StreamItem) → slice_get (items_taken d) place ≡ Some item
    → (n offset : ℕ) → slice_get (reached place offsets d) n ≡ Some offset → offset < length (contents_of item)
reached-inside place offsets d item there n offset at = ltb-true offset (length (contents_of item))
    (pick-filtered (λ (o : ℕ). nat_lt o (length (contents_of item))) offsets n offset
    (subst (λ (l : List ℕ). slice_get l n ≡ Some offset) (reached-is place offsets d item there) at)).2

-- What is gone.

-- the item is of a later epoch than that of the place
abbrev is_later : SecondaryConnection → ℕ → ℕ × StreamItem → Bool
is_later d place entry = nat_lt (epoch_of (items_taken d) place) (epoch_of (items_taken d) entry.0)

-- the places of the pending items of later epochs
abbrev dropped : SecondaryConnection → ℕ → List ℕ
dropped d place = map (λ (entry : ℕ × StreamItem). entry.0) (filter (is_later d place) (pending d))

-- the place of an item is one of them if it is pending and of a later epoch
dropped-entry : (d : SecondaryConnection) (place n : ℕ) → list_any (λ k. k == n) (dropped d place) ≡ true
    → (one : StreamItem) × (slice_get (items_taken d) n ≡ Some one) × (is_pending d (n, one) ≡ true) × (is_later d place (n, one) ≡ true)
dropped-entry d place n listed =
    let found = pick-any (λ k. k == n) (dropped d place) listed in
    let entry = pick-image (λ (e : ℕ × StreamItem). e.0) (filter (is_later d place) (pending d)) found.0 found.1 found.2 in
    let passes = pick-filtered (is_later d place) (pending d) found.0 entry.0 entry.1 in
    let stood = pick-filtered (is_pending d) (placed (items_taken d)) passes.0 entry.0 passes.1 in
    let back = placed-back 0 (items_taken d) stood.0 entry.0 stood.1 in
    let is : entry.0.0 ≡ n = entry.2 ∙ eqb-true found.1 n found.3 in
    let index : stood.0 ≡ n = omega (arith, is, back.0) in (
      entry.0.1,
      subst (λ (k : ℕ). slice_get (items_taken d) k ≡ Some entry.0.1) index back.1,
      subst (λ (k : ℕ). is_pending d (k, entry.0.1) ≡ true) is stood.2,
      subst (λ (k : ℕ). is_later d place (k, entry.0.1) ≡ true) is passes.2,
    )

dropped-is : (d : SecondaryConnection) (place n : ℕ) (one : StreamItem) → slice_get (items_taken d) n ≡ Some one
    → list_any (λ k. k == n) (dropped d place) ≡ (is_pending d (n, one) && is_later d place (n, one))
dropped-is d place n one at = elim (cases_Bool (list_any (λ k. k == n) (dropped d place))) [
  | inl listed ↦
      let entry = dropped-entry d place n listed in
      let same : entry.0 ≡ one = same-at (items_taken d) n entry.0 one entry.1 at in
      listed ∙ sym (subst (λ (x : StreamItem). (is_pending d (n, x) && is_later d place (n, x)) ≡ true) same
      (and_from (is_pending d (n, entry.0)) (is_later d place (n, entry.0)) entry.2 entry.3))
  | inr unlisted ↦ unlisted ∙ sym (false_from_ne_true (is_pending d (n, one) && is_later d place (n, one)) (λ both.
      let parts = and_parts (is_pending d (n, one)) (is_later d place (n, one)) both in
      let index : 0 + n ≡ n = omega arith in
      both_ways (list_any (λ k. k == n) (dropped d place)) unlisted
      (subst (λ (k : ℕ). list_any (λ m. m == k) (dropped d place) ≡ true) index
      (listed-at (is_pending d) (is_later d place) 0 (items_taken d) n one at (subst (λ (k : ℕ). is_pending d (k, one) ≡ true) (sym index) parts.0)
      (subst (λ (k : ℕ). is_later d place (k, one) ≡ true) (sym index) parts.1)))))
]

-- what is gone then: what was, that item, and those of later epochs
gone-is : (d : SecondaryConnection) (place : ℕ) (offsets : List ℕ) (n : ℕ) (one : StreamItem) → slice_get (items_taken d) n ≡ Some one
    → list_any (λ k. k == n) (failing place offsets d).gone
    ≡ (list_any (λ k. k == n) d.gone || ((n == place) || (is_pending d (n, one) && is_later d place (n, one))))
gone-is d place offsets n one at =
    list_any-append (λ k. k == n) d.gone (place ∷ dropped d place)
    ∙ λ i. list_any (λ k. k == n) d.gone || (turned place n i || dropped-is d place n one at i)
  where
    turned : (a b : ℕ) → (a == b) ≡ (b == a)
    turned a b = grind (arith, nat_tests)

-- what was not gone before is of no earlier epoch than the item
pub fault-gone : (d : SecondaryConnection) (place : ℕ) (offsets : List ℕ) (n : ℕ) → list_any (λ k. k == n) (failing place offsets d).gone ≡ true
    → (list_any (λ k. k == n) d.gone ≡ true) ⊎ (epoch_of (items_taken d) place ≤ epoch_of (items_taken d) n)
fault-gone d place offsets n gone = elim (or_cases (list_any (λ k. k == n) d.gone) ((place == n) || list_any (λ k. k == n) (dropped d place))
    (sym (list_any-append (λ k. k == n) d.gone (place ∷ dropped d place)) ∙ gone)) [
      | inl before ↦ inl before
      | inr now ↦ inr (elim (or_cases (place == n) (list_any (λ k. k == n) (dropped d place)) now) [
        | inl same ↦ let is : epoch_of (items_taken d) place ≡ epoch_of (items_taken d) n = ap (epoch_of (items_taken d)) (eqb-true place n same) in omega arith
        | inr listed ↦ let less = ltb-true _ _ (dropped-entry d place n listed).3 in omega arith
      ])
    ]

-- What waits after a fault: of what waited, all but that item and those of later epochs.
pub failing-pending : (d : SecondaryConnection) (place : ℕ) (offsets : List ℕ) (n : ℕ) (one : StreamItem) → slice_get (items_taken d) n ≡ Some one
    → is_pending (failing place offsets d) (n, one) ≡
    ((is_pending d (n, one) && not (n == place)) && nat_le (epoch_of (items_taken d) n) (epoch_of (items_taken d) place))
failing-pending d place offsets n one at = by (n == place) refl
  where
    turned : (a b : ℕ) → nat_le b a ≡ not (nat_lt a b)
    turned a b = grind (arith, nat_tests)

    part : SecondaryConnection → Bool
    part e = has_blocks one && not (is_whole e.applied n one)

    -- it waits then if it waited and is not dropped
    still : (b g l : Bool) → (b && not (g || (false || ((b && not g) && l)))) ≡ (((b && not g) && not false) && not l)
    still false g l = refl
    still true true l = refl
    still true false l = refl

    none : (b g l p q : Bool) → (b && not (g || (true || l))) ≡ ((p && not true) && q)
    none false g l true q = refl
    none false g l false q = refl
    none true true l true q = refl
    none true true l false q = refl
    none true false l true q = refl
    none true false l false q = refl

    by : (b : Bool) → (n == place) ≡ b → is_pending (failing place offsets d) (n, one) ≡
        ((is_pending d (n, one) && not (n == place)) && nat_le (epoch_of (items_taken d) n) (epoch_of (items_taken d) place))
    by true same = (λ i. part (failing place offsets d) && not (gone-is d place offsets n one at i))
        ∙ rw same (none (part (failing place offsets d)) (list_any (λ k. k == n) d.gone) (is_pending d (n, one) && is_later d place (n, one))
        (is_pending d (n, one)) (nat_le (epoch_of (items_taken d) n) (epoch_of (items_taken d) place)))
    by false other = (λ i. (has_blocks one && not (whole-elsewhere d.applied place (within (blocks_at (items_taken d) place) offsets) n one other i))
        && not (gone-is d place offsets n one at i))
        ∙ rw (other, turned (epoch_of (items_taken d) place) (epoch_of (items_taken d) n)) (still (part d) (list_any (λ k. k == n) d.gone)
        (is_later d place (n, one)))

-- what waited is gone if it does not wait any more, and nothing else
pub gone-waited : (d : SecondaryConnection) (place : ℕ) (item : StreamItem) (offsets : List ℕ) (n : ℕ) (one : StreamItem)
    → slice_get (items_taken d) place ≡ Some item
    → is_pending d (place, item) ≡ true → slice_get (items_taken d) n ≡ Some one
    → list_any (λ k. k == n) (failing place offsets d).gone
    ≡ (list_any (λ k. k == n) d.gone || (is_pending d (n, one) && not (is_pending (failing place offsets d) (n, one))))
gone-waited d place item offsets n one there waits at =
    gone-is d place offsets n one at
    ∙ (same (list_any (λ k. k == n) d.gone) (is_pending d (n, one)) (n == place) (is_later d place (n, one)) itself
    ∙ ap (λ b. list_any (λ k. k == n) d.gone || (is_pending d (n, one) && not b)) (sym (failing-pending d place offsets n one at
    ∙ ap (λ b. (is_pending d (n, one) && not (n == place)) && b) (turned (epoch_of (items_taken d) place) (epoch_of (items_taken d) n)))))
  where
    turned : (a b : ℕ) → nat_le b a ≡ not (nat_lt a b)
    turned a b = grind (arith, nat_tests)

    itself : (n == place) ≡ true → is_pending d (n, one) ≡ true
    itself same =
        let is : n ≡ place = eqb-true n place same in
        let it : item ≡ one = same-at (items_taken d) n item one (subst (λ (k : ℕ). slice_get (items_taken d) k ≡ Some item) (sym is) there) at in
        subst (λ (x : StreamItem). is_pending d (n, x) ≡ true) it (subst (λ (k : ℕ). is_pending d (k, item) ≡ true) (sym is) waits)

    same : (g p s l : Bool) → (s ≡ true → p ≡ true) → (g || (s || (p && l))) ≡ (g || (p && not ((p && not s) && not l)))
    same true p s l its = refl
    same false true true l its = refl
    same false true false true its = refl
    same false true false false its = refl
    same false false true l its = absurd (both_ways false refl (its refl))
    same false false false l its = refl
