-- A row and the slab of its items, as they change together.
use Rattle.std.proofs.Common.{ℕ, zero, suc, ◌≡◌, ◌≢◌, ◌<◌, ◌+◌, ◌⊎◌, inl, inr, true, false, List, [], ◌∷◌, ◌++◌, length, Option, Some, None, refl, sym, ◌∙◌, ap}
use Rattle.std.proofs.Common.{arith, nat_le, get_or, take}
use Rattle.std.specs.Prelude.{is_some, option_map}
use Rattle.std.proofs.Math.ListN.{get_or-map, set}
use Rattle.std.proofs.Math.Seq.{get_or-append_seam}
use Rattle.std.proofs.lemmas.List.{map-append, map-set}
use Rattle.slab.specs.Slab.{Slab, Updates, get}
use Rattle.peerdisk.specs.Slots.{Filled, begins_taken, of_filled, padded, pending_from, stays, trimmed}
use Rattle.peerdisk.specs.Items.{Holds, fill, filled}
use Rattle.peerdisk.specs.declared.disk.Entry.{Entry}
use Rattle.peerdisk.proofs.Ends.{early}
use Rattle.peerdisk.proofs.InSlots.{some-map}

-- The row's keys have the same items in both slabs.
abbrev pub Agree : {X : Type 0} → Slab X → Slab X → List (Option Entry) → Type 0
Agree old new slots = (i : ℕ) (e : Entry) → get_or slots i None ≡ Some e → get new e.key ≡ get old e.key

pub same-items : {X : Type 0} (old new : Slab X) (slots : List (Option Entry)) → Agree old new slots → filled new slots ≡ filled old slots
same-items old new [] agree = refl
same-items old new (None ∷ slots) agree = ap (λ xs. None ∷ xs) (same-items old new slots (λ i e is. agree (suc i) e is))
same-items old new (Some e ∷ slots) agree =
    let here : get new e.key ≡ get old e.key = agree 0 e refl in
    let rest = same-items old new slots (λ i e is. agree (suc i) e is) in
    rw (here, rest) refl

pub held-same : {X : Type 0} (old new : Slab X) (slots : List (Option Entry)) → Holds old slots → Agree old new slots → Holds new slots
held-same old new slots held agree = record {
  present = λ i e is. ap is_some (agree i e is) ∙ held.present i e is;
  apart = held.apart;
}

-- Each slot of a row is one of another, and no two are the same one.
pub held-within : {X : Type 0} (items : Slab X) (slots some : List (Option Entry)) (place : ℕ → ℕ) → ((i j : ℕ) → place i ≡ place j → i ≡ j) → Holds items slots
    → ((i : ℕ) (e : Entry) → get_or some i None ≡ Some e → get_or slots (place i) None ≡ Some e) → Holds items some
held-within items slots some place one held found = record {
  present = λ i e is. held.present (place i) e (found i e is);
  apart = λ i j e other is there same. one i j (held.apart (place i) (place j) e other (found i e is) (found j other there) same);
}

-- What a slot has is found at its key.
pub fill-at : {X : Type 0} (items : Slab X) (slots : List (Option Entry)) (i : ℕ) → get_or (filled items slots) i None ≡ fill items (get_or slots i None)
fill-at items slots i = get_or-map (fill items) slots i None

some-fill : {X : Type 0} (items : Slab X) (x : Option Entry) → ((e : Entry) → x ≡ Some e → is_some (get items e.key) ≡ true)
    → is_some (fill items x) ≡ is_some x
some-fill items None present = refl
some-fill items (Some e) present = some-map _ (get items e.key) ∙ present e refl

pub some-at : {X : Type 0} (items : Slab X) (slots : List (Option Entry)) (i : ℕ) → Holds items slots
    → is_some (get_or (filled items slots) i None) ≡ is_some (get_or slots i None)
some-at items slots i held = ap is_some (fill-at items slots i) ∙ some-fill items (get_or slots i None) (λ e is. held.present i e is)

early-map : {X : Type 0} (epoch at : ℕ) (o : Option X) → is_some o ≡ true
    → early epoch (option_map (λ item. record { epoch = at; item = item }) o) ≡ nat_le at epoch
early-map epoch at None is = absurd (cc)
early-map epoch at (Some item) is = refl

early-fill : {X : Type 0} (epoch : ℕ) (items : Slab X) (x : Option Entry) → ((e : Entry) → x ≡ Some e → is_some (get items e.key) ≡ true)
    → early epoch (fill items x) ≡ stays epoch x
early-fill epoch items None present = refl
early-fill epoch items (Some e) present = early-map epoch e.epoch (get items e.key) (present e refl)

pub early-at : {X : Type 0} (epoch : ℕ) (items : Slab X) (slots : List (Option Entry)) (i : ℕ) → Holds items slots
    → early epoch (get_or (filled items slots) i None) ≡ stays epoch (get_or slots i None)
early-at epoch items slots i held = ap (early epoch) (fill-at items slots i) ∙ early-fill epoch items (get_or slots i None) (λ e is. held.present i e is)

pub some-inside : (slots : List (Option Entry)) (i : ℕ) → is_some (get_or slots i None) ≡ true → i < length slots
some-inside [] i is = absurd (cc)
some-inside (x ∷ slots) zero is = omega arith
some-inside (x ∷ slots) (suc i) is = omega (arith, some-inside slots i is)

-- The holes at the start go.
begins-some : {X : Type 0} (x : Option X) (slots : List (Option X)) → is_some x ≡ true → begins_taken (x ∷ slots) ≡ true
begins-some None slots is = absurd (cc)
begins-some (Some e) slots is = refl

pub begins-filled : {X : Type 0} (items : Slab X) (slots : List (Option Entry)) → Holds items slots → begins_taken slots ≡ true
    → begins_taken (filled items slots) ≡ true
begins-filled items [] held begins = refl
begins-filled items (None ∷ slots) held begins = absurd (cc)
begins-filled items (Some e ∷ slots) held begins = begins-some (fill items (Some e)) (filled items slots) (some-at items (Some e ∷ slots) 0 held)

pub begins-trimmed : (slots : List (Option Entry)) → begins_taken (trimmed slots) ≡ true
begins-trimmed [] = refl
begins-trimmed (None ∷ slots) = begins-trimmed slots
begins-trimmed (Some e ∷ slots) = refl

pub held-trimmed : {X : Type 0} (items : Slab X) (slots : List (Option Entry)) → Holds items slots → Holds items (trimmed slots)
held-trimmed items [] held = held
held-trimmed items (None ∷ slots) held =
    held-trimmed items slots (held-within items (None ∷ slots) slots suc (λ i j same. omega (arith, same)) held (λ i e is. is))
held-trimmed items (Some e ∷ slots) held = held

pub pending-trimmed : {X : Type 0} (later first : ℕ) (items : Slab X) (slots : List (Option Entry)) → later + length (trimmed slots) ≡ first + length slots
    → pending_from later (filled items (trimmed slots)) ≡ pending_from first (filled items slots)
pending-trimmed later first items [] end = refl
pending-trimmed later first items (None ∷ slots) end = pending-trimmed later (suc first) items slots (omega arith)
pending-trimmed later first items (Some e ∷ slots) end = let same : later ≡ first = omega arith in rw same refl

-- Holes come at the end.
padded-finds : (n : ℕ) (slots : List (Option Entry)) (i : ℕ) (e : Entry) → get_or (padded n slots) i None ≡ Some e → get_or slots i None ≡ Some e
padded-finds zero slots i e is = absurd (cc)
padded-finds (suc n) [] zero e is = absurd (cc)
padded-finds (suc n) [] (suc i) e is = padded-finds n [] i e is
padded-finds (suc n) (x ∷ slots) zero e is = is
padded-finds (suc n) (x ∷ slots) (suc i) e is = padded-finds n slots i e is

pub held-padded : {X : Type 0} (items : Slab X) (n : ℕ) (slots : List (Option Entry)) → Holds items slots → Holds items (padded n slots)
held-padded items n slots held = held-within items slots (padded n slots) (λ i. i) (λ i j same. same) held (padded-finds n slots)

filled-padded : {X : Type 0} (items : Slab X) (n : ℕ) (slots : List (Option Entry)) → filled items (padded n slots) ≡ padded n (filled items slots)
filled-padded items zero slots = refl
filled-padded items (suc n) [] = ap (λ xs. None ∷ xs) (filled-padded items n [])
filled-padded items (suc n) (x ∷ slots) = ap (λ xs. fill items x ∷ xs) (filled-padded items n slots)

no-items_in_holes : {X : Type 0} (first n : ℕ) → pending_from {X = X} first (padded n []) ≡ []
no-items_in_holes first zero = refl
no-items_in_holes first (suc n) = no-items_in_holes (suc first) n

pending-padded_slots : {X : Type 0} (first n : ℕ) (slots : List (Option (Filled X))) → pending_from first (padded n slots) ≡ pending_from first (take n slots)
pending-padded_slots first zero slots = refl
pending-padded_slots first (suc n) [] = no-items_in_holes (suc first) n
pending-padded_slots first (suc n) (None ∷ slots) = pending-padded_slots (suc first) n slots
pending-padded_slots first (suc n) (Some e ∷ slots) = ap (λ ps. of_filled first e ∷ ps) (pending-padded_slots (suc first) n slots)

pub pending-padded : {X : Type 0} (first : ℕ) (items : Slab X) (n : ℕ) (slots : List (Option Entry))
    → pending_from first (filled items (padded n slots)) ≡ pending_from first (take n (filled items slots))
pending-padded first items n slots = ap (pending_from first) (filled-padded items n slots) ∙ pending-padded_slots first n (filled items slots)

-- An item is put under a key that had none.
fresh-agrees : {X : Type 0} (old new : Slab X) (slots : List (Option Entry)) (key : ℕ) (item : X) → Holds old slots → get old key ≡ None
    → Updates old new key (Some item) → Agree old new slots
fresh-agrees old new slots key item held none updates = λ i e is. updates.others e.key (λ same.
    let there = held.present i e is in
    let gone : is_some (get old e.key) ≡ false = ap (λ k. is_some (get old k)) same ∙ ap is_some none in
    cc)

pub filled-put : {X : Type 0} (old new : Slab X) (slots : List (Option Entry)) (e : Entry) (item : X) → Holds old slots → get old e.key ≡ None
    → Updates old new e.key (Some item)
    → filled new (slots ++ Some e ∷ []) ≡ filled old slots ++ Some (record { epoch = e.epoch; item = item }) ∷ []
filled-put old new slots e item held none updates =
    let here : get new e.key ≡ Some item = updates.changed in
    let rest = same-items old new slots (fresh-agrees old new slots e.key item held none updates) in
    map-append (fill new) slots (Some e ∷ []) ∙ rw (rest, here) refl

put-finds : (slots : List (Option Entry)) (e x : Entry) (i : ℕ) → get_or (slots ++ Some e ∷ []) i None ≡ Some x
    → (get_or slots i None ≡ Some x) ⊎ ((i ≡ length slots) × (e ≡ x))
put-finds [] e x zero is = inr (refl, cc)
put-finds [] e x (suc i) is = absurd (cc)
put-finds (y ∷ slots) e x zero is = inl is
put-finds (y ∷ slots) e x (suc i) is = elim (put-finds slots e x i is) [
  | inl there ↦ inl there
  | inr last ↦ inr (ap suc last.0, last.1)
]

pub held-put : {X : Type 0} (old new : Slab X) (slots : List (Option Entry)) (e : Entry) (item : X) → Holds old slots → get old e.key ≡ None
    → Updates old new e.key (Some item) → Holds new (slots ++ Some e ∷ [])
held-put {X} old new slots e item held none updates = record { present = present; apart = apart }
  where
    row : List (Option Entry)
    row = slots ++ Some e ∷ []

    other : (i : ℕ) (x : Entry) → get_or slots i None ≡ Some x → x.key ≢ e.key
    other i x is same =
        let there = held.present i x is in
        let gone : is_some (get old x.key) ≡ false = ap (λ k. is_some (get old k)) same ∙ ap is_some none in
        cc

    present : (i : ℕ) (x : Entry) → get_or row i None ≡ Some x → is_some (get new x.key) ≡ true
    present i x is = elim (put-finds slots e x i is) [
      | inl there ↦ ap is_some (updates.others x.key (other i x there)) ∙ held.present i x there
      | inr last ↦ ap (λ (y : Entry). is_some (get new y.key)) (sym last.1) ∙ ap is_some updates.changed
    ]

    apart : (i j : ℕ) (x y : Entry) → get_or row i None ≡ Some x → get_or row j None ≡ Some y → x.key ≡ y.key → i ≡ j
    apart i j x y is there same = elim (put-finds slots e x i is) [
      | inl first ↦ elim (put-finds slots e y j there) [
        | inl second ↦ held.apart i j x y first second same
        | inr last ↦ absurd (other i x first (same ∙ ap (λ (z : Entry). z.key) (sym last.1)))
      ]
      | inr last ↦ elim (put-finds slots e y j there) [
        | inl second ↦ absurd (other j y second (sym same ∙ ap (λ (z : Entry). z.key) (sym last.1)))
        | inr also ↦ last.0 ∙ sym also.0
      ]
    ]

-- An item is taken, and its slot is a hole.
pub record Elsewhere (slots : List (Option Entry)) (i j : ℕ) (e : Entry) : Type 0 where
  pub other : j ≢ i
  pub there : get_or slots j None ≡ Some e

hole-finds : (slots : List (Option Entry)) (i j : ℕ) (e : Entry) → get_or (set slots i None) j None ≡ Some e → Elsewhere slots i j e
hole-finds [] i j e is = absurd (cc)
hole-finds (x ∷ slots) zero zero e is = absurd (cc)
hole-finds (x ∷ slots) zero (suc j) e is = record { other = λ same. omega (arith, same); there = is }
hole-finds (x ∷ slots) (suc i) zero e is = record { other = λ same. omega (arith, same); there = is }
hole-finds (x ∷ slots) (suc i) (suc j) e is = let more = hole-finds slots i j e is in record {
  other = λ same. more.other (omega (arith, same));
  there = more.there;
}

taken-agrees : {X : Type 0} (old new : Slab X) (slots : List (Option Entry)) (i : ℕ) (e : Entry) → Holds old slots → get_or slots i None ≡ Some e
    → Updates old new e.key None → Agree old new (set slots i None)
taken-agrees old new slots i e held at updates = λ j x is. let found = hole-finds slots i j x is in updates.others x.key
    (λ same. found.other (held.apart j i x e found.there at same))

pub filled-taken : {X : Type 0} (old new : Slab X) (slots : List (Option Entry)) (i : ℕ) (e : Entry) → Holds old slots → get_or slots i None ≡ Some e
    → Updates old new e.key None
    → filled new (set slots i None) ≡ set (filled old slots) i None
filled-taken old new slots i e held at updates = same-items old new (set slots i None) (taken-agrees old new slots i e held at updates)
    ∙ map-set (fill old) slots i None

pub held-taken : {X : Type 0} (old new : Slab X) (slots : List (Option Entry)) (i : ℕ) (e : Entry) → Holds old slots → get_or slots i None ≡ Some e
    → Updates old new e.key None → Holds new (set slots i None)
held-taken old new slots i e held at updates =
    held-same old new (set slots i None)
    (held-within old slots (set slots i None) (λ j. j) (λ j k same. same) held (λ j x is. (hole-finds slots i j x is).there))
    (taken-agrees old new slots i e held at updates)

-- The last slot goes, with its item.
pub record Inside (slots : List (Option Entry)) (last : Option Entry) (i : ℕ) (e : Entry) : Type 0 where
  pub less : i < length slots
  pub there : get_or (slots ++ last ∷ []) i None ≡ Some e

init-finds : (slots : List (Option Entry)) (last : Option Entry) (i : ℕ) (e : Entry) → get_or slots i None ≡ Some e → Inside slots last i e
init-finds [] last i e is = absurd (cc)
init-finds (x ∷ slots) last zero e is = record { less = omega arith; there = is }
init-finds (x ∷ slots) last (suc i) e is = let more = init-finds slots last i e is in record { less = omega (arith, more.less); there = more.there }

pub held-init : {X : Type 0} (items : Slab X) (slots : List (Option Entry)) (last : Option Entry) → Holds items (slots ++ last ∷ []) → Holds items slots
held-init items slots last held = held-within items (slots ++ last ∷ []) slots (λ i. i) (λ i j same. same) held (λ i e is. (init-finds slots last i e is).there)

last-agrees : {X : Type 0} (old new : Slab X) (slots : List (Option Entry)) (e : Entry) → Holds old (slots ++ Some e ∷ []) → Updates old new e.key None
    → Agree old new slots
last-agrees old new slots e held updates = λ i x is. let found = init-finds slots (Some e) i x is in updates.others x.key (λ same.
    let last = held.apart i (length slots) x e found.there (get_or-append_seam slots (Some e) [] None) same in
    absurd (omega (arith, found.less, last)))

pub filled-last : {X : Type 0} (old new : Slab X) (row slots : List (Option Entry)) (e : Entry) (n : ℕ) → row ≡ slots ++ Some e ∷ [] → n ≡ length slots
    → Holds old row → Updates old new e.key None
    → filled old row ≡ filled new slots ++ get_or (filled old row) n None ∷ []
filled-last old new row slots e n is long held updates =
    let held_is = rw is at held in
    let front = same-items old new slots (last-agrees old new slots e held_is updates) in
    let whole : filled old row ≡ filled new slots ++ fill old (Some e) ∷ [] = ap (filled old) is ∙ map-append (fill old) slots (Some e ∷ [])
    ∙ ap (λ xs. xs ++ fill old (Some e) ∷ []) (sym front) in
    let seam : get_or row n None ≡ Some e = rw (is, long) (get_or-append_seam slots (Some e) [] None) in
    let last : get_or (filled old row) n None ≡ fill old (Some e) = fill-at old row n ∙ ap (fill old) seam in
    whole ∙ ap (λ x. filled new slots ++ x ∷ []) (sym last)

pub held-last : {X : Type 0} (old new : Slab X) (slots : List (Option Entry)) (e : Entry) → Holds old (slots ++ Some e ∷ []) → Updates old new e.key None
    → Holds new slots
held-last old new slots e held updates = held-same old new slots (held-init old slots (Some e) held) (last-agrees old new slots e held updates)

take-finds : (n : ℕ) (slots : List (Option Entry)) (i : ℕ) (e : Entry) → get_or (take n slots) i None ≡ Some e → get_or slots i None ≡ Some e
take-finds zero slots i e is = absurd (cc)
take-finds (suc n) [] i e is = is
take-finds (suc n) (x ∷ slots) zero e is = is
take-finds (suc n) (x ∷ slots) (suc i) e is = take-finds n slots i e is

pub held-take : {X : Type 0} (items : Slab X) (n : ℕ) (slots : List (Option Entry)) → Holds items slots → Holds items (take n slots)
held-take items n slots held = held-within items slots (take n slots) (λ i. i) (λ i j same. same) held (take-finds n slots)
