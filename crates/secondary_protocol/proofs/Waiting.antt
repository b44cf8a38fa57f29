-- What waits for the disk, as items are taken, applied, and fail.
use Rattle.std.proofs.Common.{ℕ, suc, ◌≡◌, ◌<◌, ◌≤◌, ◌+◌, ◌⊎◌, inl, inr, Bool, true, false, cond, not, ◌&&◌, List, [], ◌∷◌, ◌++◌, length, map, filter}
use Rattle.std.proofs.Common.{Some, slice_get, refl, sym, ◌∙◌, ap, subst, arith, ◌==◌, nat_eq}
use Rattle.std.specs.List.{list_any}
use Rattle.std.proofs.lemmas.Bool.{cases_Bool, and_from, ltb-true, eqb-true, not_from_false, false_from_ne_true}
use Rattle.std.proofs.lemmas.Bool.Decides.{nat_tests}
use Rattle.std.proofs.lemmas.List.{map-append}
use Rattle.std.proofs.lemmas.List.Elements.{filter-append}
use Rattle.std.proofs.Math.Bool.{and-false, and-true}
use Rattle.model.specs.Stream.{StreamItem, is_in, is_whole, has_blocks, contents_of, last_epoch, placed, placed_from, below}
use Rattle.model.specs.Secondary.{SecondaryConnection, is_pending}
use Rattle.model.specs.SecondarySteps.{offsets_at}
use Rattle.laws.proofs.Streams.Places.{epoch-grows}
use Rattle.laws.proofs.Streams.Lawful.{placed-append, epoch-end}
use Rattle.laws.proofs.Streams.Parts.{whole-has, whole-elsewhere}
use Rattle.peerdisk.specs.Pending.{without}
use Rattle.secondary_protocol.specs.Leaves.{pending_in}
use Rattle.laws.proofs.Lists.Elements.{same-at}
use Rattle.laws.proofs.Secondary.TrueBarriers.{applied-now}
use Rattle.model.specs.Frames.{Packet}

-- One item more.

-- two functions that agree on the places of a stream give the same of what passes a test
map-agree : {Y : Type 0} (f g : ℕ × StreamItem → Y) (p : ℕ × StreamItem → Bool) (start : ℕ) (items : List StreamItem)
    → ((place : ℕ) (item : StreamItem) → place < start + length items → f (place, item) ≡ g (place, item))
    → map f (filter p (placed_from start items)) ≡ map g (filter p (placed_from start items))
map-agree f g p start [] same = refl
map-agree {Y} f g p start (x ∷ items) same = go (p (start, x)) (map-agree f g p (suc start) items (λ place item within. same place item (omega arith)))
  where
    rest : List (ℕ × StreamItem)
    rest = filter p (placed_from (suc start) items)

    go : (b : Bool) → map f (filter p (placed_from (suc start) items)) ≡ map g (filter p (placed_from (suc start) items))
        → map f (cond b ((start, x) ∷ filter p (placed_from (suc start) items)) (filter p (placed_from (suc start) items))) ≡ map g
        (cond b ((start, x) ∷ filter p (placed_from (suc start) items)) (filter p (placed_from (suc start) items)))
    go true others = λ i. same start x (omega arith) i ∷ others i
    go false others = others

-- what waits, with one item more that waits or not
pub waiting-more : (test : ℕ × StreamItem → Bool) (items : List StreamItem) (item : StreamItem) (waits : Bool) → test (length items, item) ≡ waits
    → map (pending_in (items ++ item ∷ [])) (filter test (placed (items ++ item ∷ [])))
    ≡ map (pending_in items) (filter test (placed items)) ++ cond waits (record { place = length items; epoch = last_epoch items; item = item } ∷ []) []
waiting-more test items item waits is =
    let index : 0 + length items ≡ length items = omega arith in
    let all : filter test (placed (items ++ item ∷ [])) ≡ filter test (placed items) ++ cond waits ((length items, item) ∷ []) [] =
    ap (filter test) (placed-append 0 items (item ∷ []))
    ∙ (filter-append test (placed items) ((0 + length items, item) ∷ [])
    ∙ (ap (λ n. filter test (placed items) ++ filter test ((n, item) ∷ [])) index
    ∙ ap (λ b. filter test (placed items) ++ cond b ((length items, item) ∷ []) []) is)) in
    ap (map (pending_in (items ++ item ∷ []))) all
    ∙ (map-append (pending_in (items ++ item ∷ [])) (filter test (placed items)) (cond waits ((length items, item) ∷ []) [])
    ∙ (ap (λ l. l ++ map (pending_in (items ++ item ∷ [])) (cond waits ((length items, item) ∷ []) []))
    (map-agree (pending_in (items ++ item ∷ [])) (pending_in items) test 0 items
    (λ place one within. ap (λ n. record { place = place; epoch = n; item = one }) (epoch-grows items (item ∷ []) place (omega arith))))
    ∙ ap (λ l. map (pending_in items) (filter test (placed items)) ++ l) (last waits)))
  where
    last : (b : Bool) → map (pending_in (items ++ item ∷ [])) (cond b ((length items, item) ∷ []) []) ≡ cond b
        (record { place = length items; epoch = last_epoch items; item = item } ∷ []) []
    last true = ap (λ n. record { place = length items; epoch = n; item = item } ∷ []) (epoch-end items (item ∷ []))
    last false = refl

-- an item that has just been taken waits
pub new-waits : (d : SecondaryConnection) (items : List StreamItem) (item : StreamItem) → has_blocks item ≡ true → d.gone ≡ []
    → ((place offset : ℕ) → is_in d.applied place offset ≡ true → place < length items) → is_pending d (length items, item) ≡ true
new-waits d items item blocks none named =
    let some : 0 < length (contents_of item) = ltb-true 0 (length (contents_of item)) blocks in
    let part : is_whole d.applied (length items) item ≡ false = false_from_ne_true (is_whole d.applied (length items) item) (λ whole.
    let inside = named (length items) 0 (whole-has d.applied (length items) 0 item whole some) in omega arith) in
    and_from (has_blocks item && not (is_whole d.applied (length items) item)) (not (list_any (λ place. place == length items) d.gone))
    (and_from (has_blocks item) (not (is_whole d.applied (length items) item)) blocks (not_from_false (is_whole d.applied (length items) item) part))
    (not_from_false (list_any (λ place. place == length items) d.gone) (ap (list_any (λ place. place == length items)) none))

-- an item without blocks never waits
pub bare-waits-not : (d : SecondaryConnection) (place : ℕ) (item : StreamItem) → has_blocks item ≡ false → is_pending d (place, item) ≡ false
bare-waits-not d place item bare = ap (λ b. (b && not (is_whole d.applied place item)) && not (list_any (λ k. k == place) d.gone)) bare

-- An item is applied, or fails.

-- two tests that agree from a place on
filter-from : (p q : ℕ × StreamItem → Bool) (start : ℕ) (items : List StreamItem)
    → ((place : ℕ) (item : StreamItem) → start ≤ place → p (place, item) ≡ q (place, item))
    → filter p (placed_from start items) ≡ filter q (placed_from start items)
filter-from p q start [] same = refl
filter-from p q start (x ∷ items) same =
    ap (λ b. cond b ((start, x) ∷ filter p (placed_from (suc start) items)) (filter p (placed_from (suc start) items))) (same start x (omega arith))
    ∙ ap (λ (l : List (ℕ × StreamItem)). cond (q (start, x)) ((start, x) ∷ l) l)
    (filter-from p q (suc start) items (λ place item from. same place item (omega arith)))

-- two tests that agree on the items at their places
pub filter-at : (p q : ℕ × StreamItem → Bool) (start : ℕ) (items : List StreamItem)
    → ((n : ℕ) (item : StreamItem) → slice_get items n ≡ Some item → p (start + n, item) ≡ q (start + n, item))
    → filter p (placed_from start items) ≡ filter q (placed_from start items)
filter-at p q start [] same = refl
filter-at p q start (x ∷ items) same =
    let here : start + 0 ≡ start = omega arith in
    ap (λ b. cond b ((start, x) ∷ filter p (placed_from (suc start) items)) (filter p (placed_from (suc start) items)))
    (subst (λ (k : ℕ). p (k, x) ≡ q (k, x)) here (same 0 x refl))
    ∙ ap (λ (l : List (ℕ × StreamItem)). cond (q (start, x)) ((start, x) ∷ l) l)
    (filter-at p q (suc start) items (λ n item at. subst (λ (k : ℕ). p (k, item) ≡ q (k, item)) (omega arith) (same (suc n) item at)))

eq-turned : (a b : ℕ) → nat_eq a b ≡ (b == a)
eq-turned a b = grind (arith, nat_tests)

-- what waits but for a place, as the disk's list has it
pub without-placed : (all : List StreamItem) (p : ℕ × StreamItem → Bool) (place start : ℕ) (items : List StreamItem)
    → without place (map (pending_in all) (filter p (placed_from start items))) ≡ map (pending_in all)
    (filter (λ entry. p entry && not (entry.0 == place)) (placed_from start items))
without-placed all p place start [] = refl
without-placed all p place start (x ∷ items) = go (without-placed all p place (suc start) items) (p (start, x)) refl (start == place) refl
  where
    go : without place (map (pending_in all) (filter p (placed_from (suc start) items))) ≡ map (pending_in all)
        (filter (λ entry. p entry && not (entry.0 == place)) (placed_from (suc start) items)) → (b : Bool) → p (start, x) ≡ b → (same : Bool)
        → (start == place) ≡ same
        → without place (map (pending_in all) (cond b ((start, x) ∷ filter p (placed_from (suc start) items)) (filter p (placed_from (suc start) items))))
        ≡ map (pending_in all) (cond (p (start, x) && not (start == place))
        ((start, x) ∷ filter (λ entry. p entry && not (entry.0 == place)) (placed_from (suc start) items))
        (filter (λ entry. p entry && not (entry.0 == place)) (placed_from (suc start) items)))
    go rest false is same equal = rw is rest
    go rest true is true equal =
        let here : nat_eq place start ≡ true = eq-turned place start ∙ equal in
        let there : start ≡ place = eqb-true start place equal in
        rw (is, here, equal)
        (ap (map (pending_in all)) (filter-from p (λ entry. p entry && not (entry.0 == place)) (suc start) items (λ other item from.
        sym (ap (λ b. p (other, item) && not b) (false_from_ne_true (other == place) (λ e. let is_it : other ≡ place = eqb-true other place e in omega arith))
        ∙ and-true (p (other, item))))))
    go rest true is false equal =
        let here : nat_eq place start ≡ false = eq-turned place start ∙ equal in
        rw (is, here, equal) (ap (λ l. pending_in all (start, x) ∷ l) rest)

-- What waits once an item is applied: all but that one.
pub waiting-applied : (d : SecondaryConnection) (items : List StreamItem) (place : ℕ) (item : StreamItem) (due : List Packet)
    → slice_get items place ≡ Some item
    → map (pending_in items) (filter (is_pending (record d { applied = d.applied ++ offsets_at place (below (length (contents_of item))); due = due }))
    (placed items)) ≡ without place (map (pending_in items) (filter (is_pending d) (placed items)))
waiting-applied d items place item due at =
    ap (map (pending_in items)) (filter-same (λ n one there. go n one there (cases_Bool (n == place))))
    ∙ sym (without-placed items (is_pending d) place 0 items)
  where
    e : SecondaryConnection
    e = record d { applied = d.applied ++ offsets_at place (below (length (contents_of item))); due = due }

    filter-same : ((n : ℕ) (one : StreamItem) → slice_get items n ≡ Some one
        → is_pending (record d { applied = d.applied ++ offsets_at place (below (length (contents_of item))); due = due }) (n, one) ≡
        (is_pending d (n, one) && not (n == place)))
        → filter (is_pending (record d { applied = d.applied ++ offsets_at place (below (length (contents_of item))); due = due })) (placed items) ≡ filter
        (λ entry. is_pending d entry && not (entry.0 == place)) (placed items)
    filter-same same = filter-at _ _ 0 items
        (λ n one there. subst (λ (k : ℕ). is_pending (record d { applied = d.applied ++ offsets_at place (below (length (contents_of item))); due = due }) (
          k,
          one,
        ) ≡ (is_pending d (k, one) && not (k == place))) (omega arith) (same n one there))

    go : (n : ℕ) (one : StreamItem) → slice_get items n ≡ Some one → ((n == place) ≡ true) ⊎ ((n == place) ≡ false)
        → is_pending (record d { applied = d.applied ++ offsets_at place (below (length (contents_of item))); due = due }) (n, one) ≡
        (is_pending d (n, one) && not (n == place))
    go n one there (inl equal) =
        let is_it : n ≡ place = eqb-true n place equal in
        let is : one ≡ item = same-at items place one item (subst (λ k. slice_get items k ≡ Some one) is_it there) at in
        let whole : is_whole (d.applied ++ offsets_at place (below (length (contents_of item)))) n one ≡ true =
        rw (is, is_it) (applied-now d.applied place item) in
        rw (whole, equal) (gone (has_blocks one) (not (list_any (λ k. k == n) d.gone)) ∙ sym (and-false (is_pending d (n, one))))
      where
        gone : (a b : Bool) → ((a && false) && b) ≡ false
        gone true b = refl
        gone false b = refl
    go n one there (inr other) =
        rw (whole-elsewhere d.applied place (below (length (contents_of item))) n one other, other) (sym (and-true (is_pending d (n, one))))
