-- A lawful stream stays lawful as items go to its end.
use Rattle.std.proofs.Common.{ℕ, suc, ◌≡◌, ◌+◌, ◌≤◌, ◌<◌, ◌⊎◌, inl, inr, Bool, true, false, cond, ◌&&◌, List, [], ◌∷◌, ◌++◌, length, take, drop, filter, Some}
use Rattle.std.proofs.Common.{slice_get, refl, sym, ◌∙◌, ap, subst, arith, ◌==◌, nat_lt, length-append}
use Rattle.std.proofs.lemmas.Bool.{both_ways, and_parts, and_from, and_right, false_from_ne_true, ltb-true, lt-ltb, le-leb, eqb-true, ne_eqb}
use Rattle.std.proofs.lemmas.List.{take-append-drop}
use Rattle.std.proofs.lemmas.List.Elements.{filter-append}
use Rattle.std.proofs.lemmas.Option.{slice_get_within}
use Rattle.std.proofs.Math.Seq.{take-length}
use Rattle.model.specs.Contents.{Write, covers, ranges_meet}
use Rattle.model.specs.Stream.{StreamItem, WriteItem, ResyncItem, BarrierItem, is_write, first_of, contents_of, barriers_in, epoch_of, last_epoch, placed_from}
use Rattle.model.specs.Stream.{placed, items_of_epoch, epoch_size, items_meet, IsLawful}
use Rattle.laws.proofs.Streams.Places.{barriers-append, epoch-grows}
use Rattle.laws.proofs.Lists.Elements.{get-more}

-- The items of an epoch, as the stream grows.

-- the placed items of a joined stream
pub placed-append : (start : ℕ) (items more : List StreamItem)
    → placed_from start (items ++ more) ≡ placed_from start items ++ placed_from (start + length items) more
placed-append start [] more = ap (λ n. placed_from n more) (omega arith)
placed-append start (item ∷ items) more =
    ap (λ (l : List (ℕ × StreamItem)). (start, item) ∷ l) (placed-append (suc start) items more
    ∙ ap (λ n. placed_from (suc start) items ++ placed_from n more) (omega arith))

-- two tests that agree on the places of a stream let the same items through
pub filter-agree : (p q : ℕ × StreamItem → Bool) (start : ℕ) (items : List StreamItem)
    → ((place : ℕ) (item : StreamItem) → place < start + length items → p (place, item) ≡ q (place, item))
    → filter p (placed_from start items) ≡ filter q (placed_from start items)
filter-agree p q start [] same = refl
filter-agree p q start (x ∷ items) same =
    ap (λ b. cond b ((start, x) ∷ filter p (placed_from (suc start) items)) (filter p (placed_from (suc start) items))) (same start x (omega arith))
    ∙ ap (λ (l : List (ℕ × StreamItem)). cond (q (start, x)) ((start, x) ∷ l) l)
    (filter-agree p q (suc start) items (λ place item within. same place item (omega arith)))

-- a test that no item passes
filter-none : (p : ℕ × StreamItem → Bool) (start : ℕ) (items : List StreamItem) → ((place : ℕ) (item : StreamItem) → p (place, item) ≡ false)
    → filter p (placed_from start items) ≡ []
filter-none p start [] none = refl
filter-none p start (x ∷ items) none =
    ap (λ b. cond b ((start, x) ∷ filter p (placed_from (suc start) items)) (filter p (placed_from (suc start) items))) (none start x)
    ∙ filter-none p (suc start) items none

-- the place at the end of a stream is in its last epoch
pub epoch-end : (items more : List StreamItem) → epoch_of (items ++ more) (length items) ≡ last_epoch items
epoch-end items more = epoch-grows items more (length items) (omega arith) ∙ ap (λ (l : List StreamItem). suc (barriers_in l)) (take-length items)

-- no place is in an epoch behind the last one
pub epoch-bound : (items : List StreamItem) (place : ℕ) → epoch_of items place ≤ last_epoch items
epoch-bound items place =
    let parts = barriers-append (take place items) (drop place items) in
    let whole : barriers_in (take place items ++ drop place items) ≡ barriers_in items = ap barriers_in (take-append-drop place items) in
    omega arith

-- an item more is in the last epoch, and in no other
pub epoch-items-grow : (items : List StreamItem) (item : StreamItem) (epoch : ℕ)
    → items_of_epoch (items ++ item ∷ []) epoch ≡ items_of_epoch items epoch ++ cond (last_epoch items == epoch) ((length items, item) ∷ []) []
epoch-items-grow items item epoch =
    let p : ℕ × StreamItem → Bool = λ entry. epoch_of (items ++ item ∷ []) entry.0 == epoch in
    let index : 0 + length items ≡ length items = omega arith in
    ap (filter p) (placed-append 0 items (item ∷ []))
    ∙ (filter-append p (placed items) ((0 + length items, item) ∷ [])
    ∙ (ap (λ (l : List (ℕ × StreamItem)). l ++ filter p ((0 + length items, item) ∷ []))
    (filter-agree p (λ entry. epoch_of items entry.0 == epoch) 0 items
    (λ place it within. ap (λ n. n == epoch) (epoch-grows items (item ∷ []) place (omega arith))))
    ∙ (ap (λ n. items_of_epoch items epoch ++ filter p ((n, item) ∷ [])) index
    ∙ ap (λ n. items_of_epoch items epoch ++ cond (n == epoch) ((length items, item) ∷ []) []) (epoch-end items (item ∷ [])))))

-- an epoch behind the last one has no items
pub epoch-empty : (items : List StreamItem) (epoch : ℕ) → last_epoch items < epoch → items_of_epoch items epoch ≡ []
epoch-empty items epoch behind = filter-none (λ entry. epoch_of items entry.0 == epoch) 0 items
    (λ place item. false_from_ne_true (epoch_of items place == epoch) (λ same.
    let is : epoch_of items place ≡ epoch = eqb-true (epoch_of items place) epoch same in
    let bound = epoch-bound items place in
    omega arith))

-- behind a barrier begins an epoch without items
pub barrier-empties : (items : List StreamItem) (epoch : ℕ)
    → items_of_epoch (items ++ BarrierItem epoch ∷ []) (last_epoch (items ++ BarrierItem epoch ∷ [])) ≡ []
barrier-empties items epoch =
    let grown = barriers-append items (BarrierItem epoch ∷ []) in
    let last : ℕ = last_epoch (items ++ BarrierItem epoch ∷ []) in
    let other : (last_epoch items == last) ≡ false = ne_eqb (last_epoch items) last (λ same. omega arith) in
    epoch-items-grow items (BarrierItem epoch) last
    ∙ (ap (λ b. items_of_epoch items last ++ cond b ((length items, BarrierItem epoch) ∷ []) []) other
    ∙ ap (λ (l : List (ℕ × StreamItem)). l ++ []) (epoch-empty items last (omega arith)))

-- the item at a place is a write
abbrev writes_there : ℕ × StreamItem → Bool
writes_there entry = is_write entry.1

-- a stream that gets an item keeps the size of each epoch, or the item is a write and the epoch is the last one
pub size-grow : (items : List StreamItem) (item : StreamItem) (epoch : ℕ)
    → (epoch_size (items ++ item ∷ []) epoch ≡ epoch_size items epoch)
    ⊎ ((is_write item ≡ true) × (last_epoch items ≡ epoch) × (epoch_size (items ++ item ∷ []) epoch ≡ suc (epoch_size items epoch)))
size-grow items item epoch = go (last_epoch items == epoch) refl (is_write item) refl
  where
    whole : (b : Bool) → (last_epoch items == epoch) ≡ b
        → epoch_size (items ++ item ∷ []) epoch ≡ epoch_size items epoch + length (filter writes_there (cond b ((length items, item) ∷ []) []))
    whole b is =
        ap (λ (l : List (ℕ × StreamItem)). length (filter writes_there l)) (epoch-items-grow items item epoch
        ∙ ap (λ t. items_of_epoch items epoch ++ cond t ((length items, item) ∷ []) []) is)
        ∙ (ap length (filter-append writes_there (items_of_epoch items epoch) (cond b ((length items, item) ∷ []) []))
        ∙ length-append (filter writes_there (items_of_epoch items epoch)) (filter writes_there (cond b ((length items, item) ∷ []) [])))

    go : (b : Bool) → (last_epoch items == epoch) ≡ b → (v : Bool) → is_write item ≡ v
        → (epoch_size (items ++ item ∷ []) epoch ≡ epoch_size items epoch)
        ⊎ ((is_write item ≡ true) × (last_epoch items ≡ epoch) × (epoch_size (items ++ item ∷ []) epoch ≡ suc (epoch_size items epoch)))
    go false is v wr = inl (let all = whole false is in omega arith)
    go true is false wr =
        inl (let all = whole true is in let none : length (filter writes_there ((length items, item) ∷ [])) ≡ 0 =
        ap (λ b. length {A = ℕ × StreamItem} (cond b ((length items, item) ∷ []) [])) wr in omega arith)
    go true is true wr = inr (
      wr,
      eqb-true (last_epoch items) epoch is,
      let all = whole true is in let one : length (filter writes_there ((length items, item) ∷ [])) ≡ 1 =
          ap (λ b. length {A = ℕ × StreamItem} (cond b ((length items, item) ∷ []) [])) wr in omega arith,
    )

-- What an item has to be to go to the end of a lawful stream.
pub record MayFollow (most : ℕ) (items : List StreamItem) (item : StreamItem) : Type 0 where
  pub barrier : (epoch : ℕ) → item ≡ BarrierItem epoch → epoch ≡ last_epoch items
  pub rising : (place : ℕ) (a b : Write) → slice_get items place ≡ Some (WriteItem a) → item ≡ WriteItem b → a.number < b.number
  pub apart : (place : ℕ) (a : StreamItem) → epoch_of items place ≡ last_epoch items → slice_get items place ≡ Some a → items_meet a item ≡ false
  pub small : is_write item ≡ true → epoch_size items (last_epoch items) < most

-- then the stream with it is lawful
pub lawful-append : (most : ℕ) (items : List StreamItem) (item : StreamItem) → IsLawful most items → MayFollow most items item
    → IsLawful most (items ++ item ∷ [])
lawful-append most items item lawful may = record {
  barriers = λ place epoch at. elim (get-more items item place (BarrierItem epoch) at) [
    | inl old ↦ lawful.barriers place epoch old
        ∙ sym (epoch-grows items (item ∷ []) place (let n = slice_get_within items place (BarrierItem epoch) old in omega arith))
    | inr new ↦ may.barrier epoch (sym new.1) ∙ (sym (epoch-end items (item ∷ [])) ∙ ap (epoch_of (items ++ item ∷ [])) (sym new.0))
  ];
  rising = λ place later a b before ata atb. elim (get-more items item later (WriteItem b) atb) [
    | inl old ↦ elim (get-more items item place (WriteItem a) ata) [
      | inl first ↦ lawful.rising place later a b before first old
      | inr first ↦ absurd (let n = slice_get_within items later (WriteItem b) old in let e = first.0 in omega arith)
    ]
    | inr new ↦ elim (get-more items item place (WriteItem a) ata) [
      | inl first ↦ may.rising place a b first (sym new.1)
      | inr first ↦ absurd (let n = new.0 in let e = first.0 in omega arith)
    ]
  ];
  apart = λ place later a b before same ata atb. elim (get-more items item place a ata) [
    | inl first ↦
        let within = slice_get_within items place a first in
        let here : epoch_of (items ++ item ∷ []) place ≡ epoch_of items place = epoch-grows items (item ∷ []) place (omega arith) in
        elim (get-more items item later b atb) [
          | inl old ↦
              let inside = slice_get_within items later b old in
              lawful.apart place later a b before (sym here ∙ (same ∙ epoch-grows items (item ∷ []) later (omega arith))) first old
          | inr new ↦
              let last : epoch_of (items ++ item ∷ []) later ≡ last_epoch items = ap (epoch_of (items ++ item ∷ [])) new.0 ∙ epoch-end items (item ∷ []) in
              subst (λ x. items_meet a x ≡ false) (sym new.1) (may.apart place a (sym here ∙ (same ∙ last)) first)
        ]
    | inr first ↦ elim (get-more items item later b atb) [
      | inl old ↦ absurd (let n = slice_get_within items later b old in let e = first.0 in omega arith)
      | inr new ↦ absurd (let n = new.0 in let e = first.0 in omega arith)
    ]
  ];
  small = λ epoch. elim (size-grow items item epoch) [
    | inl same ↦ let old = lawful.small epoch in omega arith
    | inr grown ↦
        let less = may.small grown.0 in
        let is : epoch_size items (last_epoch items) ≡ epoch_size items epoch = ap (epoch_size items) grown.1 in
        let more = grown.2 in
        omega arith
  ];
}

-- the empty stream is lawful
pub lawful-empty : (most : ℕ) → IsLawful most []
lawful-empty most = record {
  barriers = λ place epoch at. absurd (cc);
  rising = λ place later a b before ata atb. absurd (cc);
  apart = λ place later a b before same ata atb. absurd (cc);
  small = λ epoch. omega arith;
}

-- Items that share no block.

-- an item without blocks shares none
pub meets-none : (a b : StreamItem) → length (contents_of b) ≡ 0 → items_meet a b ≡ false
meets-none a b none = ap (λ n. ranges_meet (first_of a) (length (contents_of a)) (first_of b) n) none
    ∙ and_right _ _ (and_right (nat_lt 0 (length (contents_of a))) false refl)

-- the other way
pub none-meets : (a b : StreamItem) → length (contents_of a) ≡ 0 → items_meet a b ≡ false
none-meets a b none = ap (λ n. ranges_meet (first_of a) n (first_of b) (length (contents_of b))) none
    ∙ and_right _ (nat_lt 0 0 && nat_lt 0 (length (contents_of b))) refl

-- a write that does not have a block does not meet it
pub meets-block : (write : Write) (block : ℕ) (contents : List ℕ) → covers write block ≡ false
    → items_meet (WriteItem write) (ResyncItem block contents) ≡ false
meets-block write block contents free = false_from_ne_true _ (λ meets.
    let near = (and_parts _ _ meets).0 in
    let parts = and_parts _ _ near in
    let one = ltb-true write.first (block + 1) parts.0 in
    let two = ltb-true block (write.first + length write.contents) parts.1 in
    both_ways (covers write block) free (and_from _ _ (le-leb write.first block (omega arith)) (lt-ltb block (write.first + length write.contents) two)))

-- the other way
pub block-meets : (write : Write) (block : ℕ) (contents : List ℕ) → covers write block ≡ false
    → items_meet (ResyncItem block contents) (WriteItem write) ≡ false
block-meets write block contents free = false_from_ne_true _ (λ meets.
    let near = (and_parts _ _ meets).0 in
    let parts = and_parts _ _ near in
    let one = ltb-true block (write.first + length write.contents) parts.0 in
    let two = ltb-true write.first (block + 1) parts.1 in
    both_ways (covers write block) free (and_from _ _ (le-leb write.first block (omega arith)) (lt-ltb block (write.first + length write.contents) one)))
