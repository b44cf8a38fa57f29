-- How many items are applied, as items are taken, applied, and fail.
use Rattle.std.proofs.Common.{ℕ, suc, ◌≡◌, ◌+◌, Bool, true, false, cond, not, ◌&&◌, ◌||◌, List, [], ◌∷◌, ◌++◌, length, map, filter, Some}
use Rattle.std.proofs.Common.{slice_get, refl, sym, ◌∙◌, ap, subst, arith, ◌==◌, nat_eq}
use Rattle.std.specs.List.{list_any}
use Rattle.std.proofs.lemmas.Bool.{and_parts}
use Rattle.std.proofs.lemmas.Bool.Decides.{nat_tests}
use Rattle.std.proofs.lemmas.List.{length-append}
use Rattle.std.proofs.lemmas.List.Elements.{filter-append}
use Rattle.model.specs.Stream.{StreamItem, is_whole, has_blocks, placed}
use Rattle.model.specs.Secondary.{SecondaryConnection, items_taken, is_pending, pending}
use Rattle.model.specs.SecondarySteps.{failing}
use Rattle.model.specs.Settlement.{applied_items}
use Rattle.laws.proofs.Rules.DiskFaults.{failing-pending, gone-waited}
use Rattle.laws.proofs.Rules.Usage.{is_applied, applied-with}
use Rattle.laws.proofs.Streams.Lawful.{placed-append}
use Rattle.peerdisk.specs.Pending.{without}
use Rattle.secondary_protocol.specs.Leaves.{pending_in}
use Rattle.secondary_protocol.proofs.Tested.{length-map}
use Rattle.secondary_protocol.proofs.Waiting.{filter-at}

-- the same items, of which the same are applied
pub same-count : (c d : SecondaryConnection) → items_taken c ≡ items_taken d → c.applied ≡ d.applied → c.gone ≡ d.gone → applied_items c ≡ applied_items d
same-count c d items applied gone = applied-with c d applied gone
    ∙ (ap (λ (l : List StreamItem). length (filter (is_applied d) (placed l))) items ∙ sym (applied-with d d refl refl))

-- an item that has just been taken is not applied: it waits, or has no blocks
pub count-more : (c d : SecondaryConnection) (item : StreamItem) (waits : Bool) → has_blocks item ≡ waits → is_pending d (length (items_taken d), item) ≡ waits
    → items_taken c ≡ items_taken d ++ item ∷ [] → c.applied ≡ d.applied → c.gone ≡ d.gone
    → applied_items c ≡ applied_items d
count-more c d item waits blocks is items applied gone =
    applied-with c d applied gone
    ∙ (ap (λ (l : List StreamItem). length (filter test (placed l))) items
    ∙ (ap (λ (l : List (ℕ × StreamItem)). length (filter test l)) (placed-append 0 old (item ∷ []))
    ∙ (ap length (filter-append test (placed old) ((0 + length old, item) ∷ []))
    ∙ (length-append (filter test (placed old)) (filter test ((0 + length old, item) ∷ []))
    ∙ (ap (λ b. length (filter test (placed old)) + length {A = ℕ × StreamItem} (cond b ((0 + length old, item) ∷ []) [])) none
    ∙ omega (arith, applied-with d d refl refl))))))
  where
    old : List StreamItem
    old = items_taken d

    test : ℕ × StreamItem → Bool
    test = is_applied d

    never : (a p g b : Bool) → a ≡ b → p ≡ b → ((a && not p) && not g) ≡ false
    never false p g b first second = refl
    never true true g b first second = refl
    never true false g b first second = absurd (cc)

    none : test (0 + length old, item) ≡ false
    none = let index : length old ≡ 0 + length old = omega arith in
        subst (λ (n : ℕ). test (n, item) ≡ false) index (never (has_blocks item) _ (list_any (λ (place : ℕ). place == length old) d.gone) waits blocks is)

-- What is not gone and has blocks waits or is applied.

-- it has blocks and is not gone
abbrev stays : List ℕ → ℕ × StreamItem → Bool
stays gone entry = has_blocks entry.1 && not (list_any (λ (place : ℕ). place == entry.0) gone)

split : (d : SecondaryConnection) (xs : List (ℕ × StreamItem))
    → length (filter (is_applied d) xs) + length (filter (is_pending d) xs) ≡ length (filter (stays d.gone) xs)
split d [] = refl
split d (x ∷ xs) = go (has_blocks x.1) (is_whole d.applied x.0 x.1) (list_any (λ (place : ℕ). place == x.0) d.gone) (split d xs)
  where
    go : (a w g : Bool) → length (filter (is_applied d) xs) + length (filter (is_pending d) xs) ≡ length (filter (stays d.gone) xs)
        → length (cond ((a && not ((a && not w) && not g)) && not g) (x ∷ filter (is_applied d) xs) (filter (is_applied d) xs)) + length
        (cond ((a && not w) && not g) (x ∷ filter (is_pending d) xs) (filter (is_pending d) xs)) ≡ length
        (cond (a && not g) (x ∷ filter (stays d.gone) xs) (filter (stays d.gone) xs))
    go true true true rest = rest
    go true true false rest = omega (arith, rest)
    go true false true rest = rest
    go true false false rest = omega (arith, rest)
    go false w g rest = rest

-- once more is applied, as many more are applied as wait less
pub count-applied : (c d : SecondaryConnection) → items_taken c ≡ items_taken d → c.gone ≡ d.gone → length (pending c) + 1 ≡ length (pending d)
    → applied_items c ≡ suc (applied_items d)
count-applied c d items gone fewer =
    let old = split d (placed (items_taken d)) in
    let new : length (filter (is_applied c) (placed (items_taken c))) + length (pending c) ≡ length (filter (stays d.gone) (placed (items_taken d))) =
    split c (placed (items_taken c)) ∙ (λ i. length (filter (stays (gone i)) (placed (items i)))) in
    omega (arith, old, new, fewer, applied-with c c refl refl, applied-with d d refl refl)

-- one that waits is on the disk's list, and without it that is one shorter
pub fewer-without : (all : List StreamItem) (place : ℕ) (xs : List (ℕ × StreamItem)) → list_any (λ (entry : ℕ × StreamItem). entry.0 == place) xs ≡ true
    → length (without place (map (pending_in all) xs)) + 1 ≡ length xs
fewer-without all place [] there = absurd (cc)
fewer-without all place (x ∷ xs) there = go (fewer-without all place xs) (nat_eq place x.0) refl
  where
    turned : (a b : ℕ) → (a == b) ≡ nat_eq b a
    turned a b = grind (arith, nat_tests)

    go : (list_any (λ (entry : ℕ × StreamItem). entry.0 == place) xs ≡ true → length (without place (map (pending_in all) xs)) + 1 ≡ length xs)
        → (b : Bool) → nat_eq place x.0 ≡ b → length (without place (map (pending_in all) (x ∷ xs))) + 1 ≡ length (x ∷ xs)
    go rest true is = let same = length-map (pending_in all) xs in rw is (omega (arith, same))
    go rest false is = let less = rest (sym (ap (λ b. b || list_any (λ (entry : ℕ × StreamItem). entry.0 == place) xs) (turned x.0 place ∙ is))
        ∙ there) in rw is (omega (arith, less))

-- A fault applies no item, and takes none back: the item that failed waited, and so did those that are dropped.
pub count-failed : (d : SecondaryConnection) (place : ℕ) (item : StreamItem) (offsets : List ℕ) → slice_get (items_taken d) place ≡ Some item
    → is_pending d (place, item) ≡ true
    → applied_items (failing place offsets d) ≡ applied_items d
count-failed d place item offsets at waits =
    applied-with f f refl refl
    ∙ (ap length (filter-at (is_applied f) (is_applied d) 0 (items_taken d) (λ n one there.
    let index : 0 + n ≡ n = omega arith in
    subst (λ (k : ℕ). is_applied f (k, one) ≡ is_applied d (k, one)) (sym index)
    (ap (λ b. (has_blocks one && not (is_pending f (n, one))) && not b) (gone-waited d place item offsets n one at waits there)
    ∙ still (has_blocks one) (is_pending d (n, one)) (is_pending f (n, one)) (list_any (λ (k : ℕ). k == n) d.gone) (λ later.
    (and_parts (is_pending d (n, one)) _ (and_parts _ _ (sym (failing-pending d place offsets n one there) ∙ later)).0).0))))
    ∙ sym (applied-with d d refl refl))
  where
    f : SecondaryConnection
    f = failing place offsets d

    -- what waits then waited, and what waited and does not then is gone
    still : (a p q g : Bool) → (q ≡ true → p ≡ true) → ((a && not q) && not (g || (p && not q))) ≡ ((a && not p) && not g)
    still false p q g before = refl
    still true true true g before = refl
    still true true false true before = refl
    still true true false false before = refl
    still true false false true before = refl
    still true false false false before = refl
    still true false true g before = absurd (let is = before refl in cc)
