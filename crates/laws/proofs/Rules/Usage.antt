-- Whether the secondary may be used: which items are done, and up to the end of which epoch all of them are.
use Rattle.std.proofs.Common.{ℕ, zero, suc, ◌≡◌, ◌+◌, ◌≤◌, ◌<◌, ◌⊎◌, inl, inr, Bool, true, false, cond, not, ◌&&◌, ◌||◌, List, [], ◌∷◌, ◌++◌, length, map}
use Rattle.std.proofs.Common.{filter, Some, slice_get, refl, sym, ◌∙◌, ap, subst, arith, ◌==◌, nat_le}
use Rattle.std.specs.List.{list_any, list_all}
use Rattle.std.proofs.lemmas.Bool.{cases_lt, both_ways, not-true, and_parts, and_from, or_cases, le-leb, lt-leb, leb-true, leb-false}
use Rattle.std.proofs.lemmas.Bool.{false_from_ne_true}
use Rattle.std.proofs.lemmas.List.{append-nil, map-append}
use Rattle.std.proofs.lemmas.List.Elements.{filter-append}
use Rattle.model.specs.Stream.{StreamItem, is_whole, has_blocks, epoch_of, barriers_in, placed, below}
use Rattle.model.specs.Primary.{last_of}
use Rattle.model.specs.Secondary.{SecondaryConnection, SecondaryHistory, secondary_connection, items_taken, is_pending, is_applied_to, is_done, is_done_to}
use Rattle.model.specs.Secondary.{whole}
use Rattle.model.specs.Settlement.{applied_items}
use Rattle.laws.proofs.Lists.Fronts.{all-at, all-get}
use Rattle.laws.proofs.Lists.Last.{last-at, last-more}
use Rattle.laws.proofs.Lists.Picks.{pick-filtered, pick-image, pick-below}
use Rattle.laws.proofs.Streams.Places.{placed-at, placed-back}

-- Which items are done.

-- an item with blocks that neither waits nor is gone
abbrev pub is_applied : SecondaryConnection → ℕ × StreamItem → Bool
is_applied d entry = (has_blocks entry.1 && not (is_pending d entry)) && not (list_any (λ (place : ℕ). place == entry.0) d.gone)

-- such an item is done
done-is : (d : SecondaryConnection) (entry : ℕ × StreamItem) → (has_blocks entry.1 && is_done d entry) ≡ is_applied d entry
done-is d entry = go (has_blocks entry.1) (is_whole d.applied entry.0 entry.1) (list_any (λ (place : ℕ). place == entry.0) d.gone)
  where
    go : (a w g : Bool) → (a && (w && not g)) ≡ ((a && not ((a && not w) && not g)) && not g)
    go true true true = refl
    go true true false = refl
    go true false true = refl
    go true false false = refl
    go false w g = refl

-- the items that are applied, over whatever was taken
pub applied-with : (c d : SecondaryConnection) → c.applied ≡ d.applied → c.gone ≡ d.gone
    → applied_items c ≡ length (filter (is_applied d) (placed (items_taken c)))
applied-with c d applied gone =
    (λ i. length (filter (λ (entry : ℕ × StreamItem). has_blocks entry.1
    && (is_whole (applied i) entry.0 entry.1 && not (list_any (λ (place : ℕ). place == entry.0) (gone i)))) (placed (items_taken c))))
    ∙ λ i. length (filter (λ (entry : ℕ × StreamItem). done-is d entry i) (placed (items_taken c)))

-- How far it is whole.

-- all items up to the end of an epoch that was ended are whole
pub record IsWholeTo (d : SecondaryConnection) (epoch : ℕ) : Type 0 where
  pub ended : epoch ≤ barriers_in (items_taken d)
  pub items : (place : ℕ) (item : StreamItem) → slice_get (items_taken d) place ≡ Some item → epoch_of (items_taken d) place ≤ epoch → has_blocks item ≡ true
      → is_whole d.applied place item ≡ true

-- an item is done up to an epoch
abbrev done_by : SecondaryConnection → ℕ → ℕ × StreamItem → Bool
done_by d epoch entry = not (nat_le (epoch_of (items_taken d) entry.0) epoch && has_blocks entry.1) || is_done d entry

-- each item up to the end of an epoch that is done is done
done-item : (d : SecondaryConnection) (epoch place : ℕ) (item : StreamItem) → is_done_to d epoch ≡ true → slice_get (items_taken d) place ≡ Some item
    → epoch_of (items_taken d) place ≤ epoch → has_blocks item ≡ true → is_done d (place, item) ≡ true
done-item d epoch place item done at upto blocks =
    let index : 0 + place ≡ place = omega arith in
    let test = all-at (done_by d epoch) (placed (items_taken d)) place (place, item) done
    (placed-at 0 (items_taken d) place item at ∙ ap (λ (n : ℕ). Some (n, item)) index) in
    elim (or_cases (not (nat_le (epoch_of (items_taken d) place) epoch && has_blocks item)) (is_done d (place, item)) test) [
      | inl late ↦ absurd (both_ways (nat_le (epoch_of (items_taken d) place) epoch && has_blocks item) (not-true _ late)
          (and_from _ _ (le-leb (epoch_of (items_taken d) place) epoch upto) blocks))
      | inr is ↦ is
    ]

-- so it is whole to no epoch, or to this one
pub whole-to : (s : SecondaryHistory) → (whole s ≡ 0) ⊎ IsWholeTo (secondary_connection s) (whole s)
whole-to s = elim (last-at 0 (filter (is_done_to (secondary_connection s)) (map suc (below all)))) [
  | inl none ↦ inl (ap (last_of 0) none)
  | inr last ↦
      let found = pick-filtered (is_done_to (secondary_connection s)) (map suc (below all)) _ (whole s) last in
      let number = pick-image suc (below all) found.0 (whole s) found.1 in
      let low = pick-below all found.0 number.0 number.1 in
      let is = number.2 in
      inr (record {
        ended = omega arith;
        items = λ place item at upto blocks. (and_parts (is_whole (secondary_connection s).applied place item) _
            (done-item (secondary_connection s) (whole s) place item found.2 at upto blocks)).0;
      })
]
  where
    all : ℕ
    all = barriers_in (items_taken (secondary_connection s))

-- to none where nothing was taken
pub whole-none : (s : SecondaryHistory) → items_taken (secondary_connection s) ≡ [] → whole s ≡ 0
whole-none s none = ap (λ (l : List StreamItem). last_of 0 (filter (is_done_to (secondary_connection s)) (map suc (below (barriers_in l))))) none

-- the last that passes of the first so many numbers, where those up to one pass and no others
last-passing : (p : ℕ → Bool) (w n : ℕ) → w ≤ n → ((x : ℕ) → 0 < x → x ≤ n → p x ≡ nat_le x w) → last_of 0 (filter p (map suc (below n))) ≡ w
last-passing p w zero within passes = omega arith
last-passing p w (suc n) within passes =
    ap (λ (l : List ℕ). last_of 0 (filter p l)) (map-append suc (below n) (n ∷ []))
    ∙ (ap (last_of 0) (filter-append p (map suc (below n)) (suc n ∷ []))
    ∙ go (p (suc n)) (passes (suc n) (omega arith) (omega arith))
    (λ upto. last-passing p w n upto (λ x from less. passes x from (omega arith))))
  where
    go : (b : Bool) → b ≡ nat_le (suc n) w → (w ≤ n → last_of 0 (filter p (map suc (below n))) ≡ w)
        → last_of 0 (filter p (map suc (below n)) ++ cond b (suc n ∷ []) []) ≡ w
    go true is rest = last-more 0 (suc n) (filter p (map suc (below n))) ∙ (let top = leb-true (suc n) w (sym is) in omega arith)
    go false is rest =
        let less = leb-false (suc n) w (sym is) in
        ap (last_of 0) (append-nil (filter p (map suc (below n)))) ∙ rest (omega arith)

-- where nothing is gone, it is whole as far as all is applied
pub whole-applied : (s : SecondaryHistory) (w : ℕ) → (secondary_connection s).gone ≡ [] → w ≤ barriers_in (items_taken (secondary_connection s))
    → ((x : ℕ) → 0 < x → x ≤ barriers_in (items_taken (secondary_connection s)) → is_applied_to (secondary_connection s) x ≡ nat_le x w) → w ≡ whole s
whole-applied s w none within passes = sym (last-passing (is_done_to d) w (barriers_in (items_taken d)) within (λ x from upto. done x ∙ passes x from upto))
  where
    d : SecondaryConnection
    d = secondary_connection s

    plain : (b : Bool) → (b && true) ≡ b
    plain true = refl
    plain false = refl

    done : (x : ℕ) → is_done_to (secondary_connection s) x ≡ is_applied_to (secondary_connection s) x
    done x = (λ i. list_all (λ (entry : ℕ × StreamItem). not (nat_le (epoch_of (items_taken d) entry.0) x && has_blocks entry.1)
        || (is_whole d.applied entry.0 entry.1 && not (list_any (λ (place : ℕ). place == entry.0) (none i)))) (placed (items_taken d)))
        ∙ λ i. list_all (λ (entry : ℕ × StreamItem). not (nat_le (epoch_of (items_taken d) entry.0) x && has_blocks entry.1)
        || plain (is_whole d.applied entry.0 entry.1) i) (placed (items_taken d))

-- where an item of the next epoch is gone and all before is applied, it is whole so far
pub whole-gone : (s : SecondaryHistory) (w place : ℕ) (item : StreamItem) → slice_get (items_taken (secondary_connection s)) place ≡ Some item
    → has_blocks item ≡ true
    → list_any (λ k. k == place) (secondary_connection s).gone ≡ true → epoch_of (items_taken (secondary_connection s)) place ≡ suc w
    → w ≤ barriers_in (items_taken (secondary_connection s))
    → ((other : ℕ) (one : StreamItem) → slice_get (items_taken (secondary_connection s)) other ≡ Some one → has_blocks one ≡ true
    → epoch_of (items_taken (secondary_connection s)) other ≤ w → is_applied (secondary_connection s) (other, one) ≡ true) → w ≡ whole s
whole-gone s w place item at blocks gone epoch within applied =
    sym (last-passing (is_done_to d) w (barriers_in (items_taken d)) within (λ x from upto. elim (cases_lt w x) [
      | inl late ↦ false_from_ne_true (is_done_to d x) (λ done. not-gone (and_from _ _ blocks (done-item d x place item done at (omega arith) blocks)))
          ∙ sym (lt-leb x w late)
      | inr early ↦ all-done x early ∙ sym (le-leb x w early)
    ]))
  where
    d : SecondaryConnection
    d = secondary_connection s

    not-gone : (has_blocks item && is_done d (place, item)) ≡ true → ⊥
    not-gone done = both_ways (list_any (λ k. k == place) d.gone) (not-true (list_any (λ k. k == place) d.gone)
        (and_parts (has_blocks item && not (is_pending d (place, item))) (not (list_any (λ k. k == place) d.gone)) (sym (done-is d (place, item))
        ∙ done)).1) gone

    all-done : (x : ℕ) → x ≤ w → is_done_to d x ≡ true
    all-done x early = all-get (done_by d x) (placed (items_taken d)) (λ k entry there.
        let back = placed-back 0 (items_taken d) k entry there in
        let here : slice_get (items_taken d) entry.0 ≡ Some entry.1 = subst (λ (n : ℕ). slice_get (items_taken d) n ≡ Some entry.1)
        (omega (arith, back.0)) back.1 in
        go entry (nat_le (epoch_of (items_taken d) entry.0) x) refl (has_blocks entry.1) refl here)
      where
        go : (entry : ℕ × StreamItem) (soon : Bool) → nat_le (epoch_of (items_taken d) entry.0) x ≡ soon → (b : Bool) → has_blocks entry.1 ≡ b
            → slice_get (items_taken d) entry.0 ≡ Some entry.1 → done_by d x entry ≡ true
        go entry false is b is_b here = ap (λ t. not (t && has_blocks entry.1) || is_done d entry) is
        go entry true is false is_b here = rw (is, is_b) refl
        go entry true is true is_b here =
            let upto = leb-true (epoch_of (items_taken d) entry.0) x is in
            rw (is, is_b) (and_parts (has_blocks entry.1) (is_done d entry) (done-is d entry ∙ applied entry.0 entry.1 here is_b (omega arith))).1
