-- An acknowledgement of a block: the end awaits it exactly where the history does.
use Rattle.std.proofs.Common.{ℕ, zero, suc, ◌≡◌, ◌+◌, Bool, true, false, not, ◌&&◌, List, [], ◌∷◌, Option, Some, None, slice_get, refl, sym, ◌∙◌, ap, subst}
use Rattle.std.proofs.Common.{arith, nat_lt, ◌==◌}
use Rattle.std.proofs.lemmas.Bool.{and_parts, and_from, not-true, eqb-true, eq-eqb}
use Rattle.model.specs.Stream.{StreamItem, ResyncItem, placed}
use Rattle.model.specs.Frames.{Acknowledged, naming}
use Rattle.model.specs.Primary.{PrimaryConnection, items_sent, is_resync, was_resynced, same_naming, under_way}
use Rattle.model.specs.Acknowledgements.{names_sent, was_named}
use Rattle.laws.proofs.Lists.Picks.{pick-filtered, filtered-pick}
use Rattle.laws.proofs.Streams.Places.{placed-at, placed-back}
use Rattle.primary_protocol.specs.Core.{UnderWay}
use Rattle.primary_protocol.specs.Taking.{names_block}
use Rattle.primary_protocol.specs.Leaves.{UnderWayLeft}

-- The block that an acknowledgement names: it alone is under way, and it was sent.
pub record NamesBlock (c : PrimaryConnection) (ack : Acknowledged) : Type 0 where
  pub contents : List ℕ
  pub alone : under_way c ≡ (ack.place, ResyncItem ack.first contents) ∷ []
  pub there : slice_get c.stream ack.place ≡ Some (ResyncItem ack.first contents)
  pub fresh : was_resynced c ack.place (ResyncItem ack.first contents) ≡ false
  pub naming_is : same_naming (naming ack.place (ResyncItem ack.first contents)) ack ≡ true
  pub sent : nat_lt ack.place (items_sent c) ≡ true

-- whether an item is under way
abbrev waits : PrimaryConnection → ℕ × StreamItem → Bool
waits c entry = is_resync entry.1 && not (was_resynced c entry.0 entry.1)

-- a block that was not acknowledged is under way
pub block-waits : (c : PrimaryConnection) (place : ℕ) (item : StreamItem) → slice_get c.stream place ≡ Some item → is_resync item ≡ true
    → was_resynced c place item ≡ false
    → (n : ℕ) × (slice_get (under_way c) n ≡ Some (place, item))
block-waits c place item at block fresh =
    let index : 0 + place ≡ place = omega arith in
    filtered-pick (waits c) (placed c.stream) place (place, item) (placed-at 0 c.stream place item at
    ∙ ap (λ m. Some (m, item)) index) (and_from (is_resync item) (not (was_resynced c place item)) block (ap not fresh))

-- a list of one element has no other
pub only-one : {X : Type 0} (x y : X) (xs : List X) (n : ℕ) → xs ≡ x ∷ [] → slice_get xs n ≡ Some y → x ≡ y
only-one x y xs n one at = go n (subst (λ (l : List _). slice_get l n ≡ Some y) one at)
  where
    go : (n : ℕ) → slice_get (x ∷ []) n ≡ Some y → x ≡ y
    go zero at = cc
    go (suc n) at = absurd (cc)

-- what the end awaits
pub named-block : (v : Option UnderWay) (c : PrimaryConnection) (ack : Acknowledged) → UnderWayLeft v c → names_block ack (items_sent c) v ≡ true
    → NamesBlock c ack
named-block None c ack left so = absurd (cc)
named-block (Some way) c ack left so =
    let parts = and_parts (((ack.first == way.block) && (ack.number == 0)) && ((ack.count == 1) && (ack.place == way.place)))
    (nat_lt way.place (items_sent c)) so in
    let names = and_parts ((ack.first == way.block) && (ack.number == 0)) ((ack.count == 1) && (ack.place == way.place)) parts.0 in
    let front = and_parts (ack.first == way.block) (ack.number == 0) names.0 in
    let back = and_parts (ack.count == 1) (ack.place == way.place) names.1 in
    let block : ack.first ≡ way.block = eqb-true ack.first way.block front.0 in
    let number : ack.number ≡ 0 = eqb-true ack.number 0 front.1 in
    let count : ack.count ≡ 1 = eqb-true ack.count 1 back.0 in
    let place : ack.place ≡ way.place = eqb-true ack.place way.place back.1 in
    let alone : under_way c ≡ (ack.place, ResyncItem ack.first left.0) ∷ [] = left.1 ∙ λ i. (sym place i, ResyncItem (sym block i) left.0) ∷ [] in
    let stood = pick-filtered (waits c) (placed c.stream) 0 (ack.place, ResyncItem ack.first left.0)
    (ap (λ (l : List (ℕ × StreamItem)). slice_get l 0) alone) in
    let behind = placed-back 0 c.stream stood.0 (ack.place, ResyncItem ack.first left.0) stood.1 in
    let index : stood.0 ≡ ack.place = let p = behind.0 in omega arith in
    record {
      contents = left.0;
      alone = alone;
      there = ap (slice_get c.stream) (sym index) ∙ behind.1;
      fresh = not-true (was_resynced c ack.place (ResyncItem ack.first left.0)) stood.2;
      naming_is = and_from _ _ (and_from _ _ (eq-eqb ack.first ack.first refl) (eq-eqb 0 ack.number (sym number)))
          (and_from _ _ (eq-eqb 1 ack.count (sym count)) (eq-eqb ack.place ack.place refl));
      sent = ap (λ m. nat_lt m (items_sent c)) place ∙ parts.1;
    }

-- what it names was sent and not acknowledged
pub block-sent : (c : PrimaryConnection) (ack : Acknowledged) → NamesBlock c ack → names_sent is_resync ack c ≡ true
block-sent c ack n =
    ap (λ (v : Option StreamItem). elim v as (λ _. Bool) [
      | None ↦ false
      | Some item ↦ (is_resync item && same_naming (naming ack.place item) ack)
          && nat_lt ack.place (items_sent c)
    ]) n.there
    ∙ and_from _ _ n.naming_is n.sent

pub block-fresh : (c : PrimaryConnection) (ack : Acknowledged) → NamesBlock c ack → was_named was_resynced ack c ≡ false
block-fresh c ack n = ap (λ (v : Option StreamItem). elim v as (λ _. Bool) [ None ↦ false | Some item ↦ was_resynced c ack.place item ]) n.there ∙ n.fresh

-- what was sent and not acknowledged is the block under way
back : (v : Option UnderWay) (c : PrimaryConnection) (ack : Acknowledged) → UnderWayLeft v c → names_sent is_resync ack c ≡ true
    → was_named was_resynced ack c ≡ false
    → names_block ack (items_sent c) v ≡ true
back v c ack left sent fresh = go (slice_get c.stream ack.place) refl sent fresh
  where
    by-item : (item : StreamItem) → slice_get c.stream ack.place ≡ Some item → is_resync item ≡ true → same_naming (naming ack.place item) ack ≡ true
        → nat_lt ack.place (items_sent c) ≡ true → was_resynced c ack.place item ≡ false → names_block ack (items_sent c) v ≡ true
    by-item item at block named sent fresh = by-way v left
      where
        by-way : (v : Option UnderWay) → UnderWayLeft v c → names_block ack (items_sent c) v ≡ true
        by-way None none = let there = block-waits c ack.place item at block fresh in absurd
            (let at0 = subst (λ (l : List (ℕ × StreamItem)). slice_get l there.0 ≡ Some (ack.place, item)) none there.1 in cc)
        by-way (Some way) w =
            let there = block-waits c ack.place item at block fresh in
            let same = only-one (way.place, ResyncItem way.block w.0) (ack.place, item) (under_way c) there.0 w.1 there.1 in
            let place : way.place ≡ ack.place = ap (λ (x : ℕ × StreamItem). x.0) same in
            let item_is : ResyncItem way.block w.0 ≡ item = ap (λ (x : ℕ × StreamItem). x.1) same in
            let naming_so : same_naming (naming ack.place (ResyncItem way.block w.0)) ack ≡ true =
            ap (λ (x : StreamItem). same_naming (naming ack.place x) ack) item_is ∙ named in
            let names = and_parts ((way.block == ack.first) && (0 == ack.number)) ((1 == ack.count) && (ack.place == ack.place)) naming_so in
            let front = and_parts (way.block == ack.first) (0 == ack.number) names.0 in
            let last = and_parts (1 == ack.count) (ack.place == ack.place) names.1 in
            and_from _ _ (and_from _ _ (and_from _ _ (eq-eqb ack.first way.block (sym (eqb-true way.block ack.first front.0)))
            (eq-eqb ack.number 0 (sym (eqb-true 0 ack.number front.1))))
            (and_from _ _ (eq-eqb ack.count 1 (sym (eqb-true 1 ack.count last.0))) (eq-eqb ack.place way.place (sym place))))
            (ap (λ m. nat_lt m (items_sent c)) place ∙ sent)

    go : (w : Option StreamItem) → slice_get c.stream ack.place ≡ w
        → elim w as (λ _. Bool) [ None ↦ false | Some item ↦ (is_resync item && same_naming (naming ack.place item) ack) && nat_lt ack.place (items_sent c) ] ≡
        true
        → elim w as (λ _. Bool) [ None ↦ false | Some item ↦ was_resynced c ack.place item ] ≡ false → names_block ack (items_sent c) v ≡ true
    go None is so fresh = absurd (cc)
    go (Some item) is so fresh =
        let parts = and_parts (is_resync item && same_naming (naming ack.place item) ack) (nat_lt ack.place (items_sent c)) so in
        let names = and_parts (is_resync item) (same_naming (naming ack.place item) ack) parts.0 in
        by-item item is names.0 names.1 parts.1 fresh

-- The end awaits it exactly where the history does.
pub awaits-block : (v : Option UnderWay) (c : PrimaryConnection) (ack : Acknowledged) → UnderWayLeft v c
    → names_block ack (items_sent c) v ≡ (names_sent is_resync ack c && not (was_named was_resynced ack c))
awaits-block v c ack left = go (names_block ack (items_sent c) v) (names_sent is_resync ack c && not (was_named was_resynced ack c)) refl refl
  where
    go : (b d : Bool) → names_block ack (items_sent c) v ≡ b → (names_sent is_resync ack c && not (was_named was_resynced ack c)) ≡ d → b ≡ d
    go true d is so = let n = named-block v c ack left is in sym (and_from _ _ (block-sent c ack n) (ap not (block-fresh c ack n))) ∙ so
    go false true is so =
        let parts = and_parts (names_sent is_resync ack c) (not (was_named was_resynced ack c)) so in
        sym is ∙ back v c ack left parts.0 (not-true (was_named was_resynced ack c) parts.1)
    go false false is so = refl
