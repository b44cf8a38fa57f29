-- The last epoch of a stream that stands: what is in it while it is open, and what may go to its end.
use Rattle.std.proofs.Common.{ℕ, suc, ◌≡◌, ◌+◌, true, false, not, ◌&&◌, inl, inr, cond, ◌⊎◌, ◌++◌, ◌∷◌, List, [], length, Some, slice_get}
use Rattle.std.proofs.Common.{refl, sym, ◌∙◌, ap, subst, arith, ◌==◌, nat_lt, zero-add}
use Rattle.std.specs.Prelude.{if◌then◌else◌, is_some}
use Rattle.std.proofs.lemmas.Bool.{eq-eqb}
use Rattle.std.proofs.lemmas.Option.{slice_get_within}
use Rattle.model.specs.Contents.{Write, covers, overlap}
use Rattle.model.specs.Stream.{StreamItem, WriteItem, ResyncItem, BarrierItem, SyncUuidItem, UuidsItem, is_barrier, barriers_in, epoch_of, last_epoch, placed}
use Rattle.model.specs.Stream.{items_of_epoch, epoch_size, items_meet}
use Rattle.model.specs.Primary.{Accepted, PrimaryConnection, PrimaryHistory, primary_connection, is_established, was_resynced, is_open, open_writes, is_resync}
use Rattle.model.specs.Primary.{under_way}
use Rattle.model.specs.Primary.{free_block}
use Rattle.model.specs.PrimarySteps.{epoch_is_over, conflict, submission}
use Rattle.laws.proofs.Rules.Conflicts.{has_block_of, free-of-conflict, way-apart}
use Rattle.laws.proofs.Rules.FreeBlocks.{free-found}
use Rattle.laws.proofs.Rules.EpochEnds.{most_writes, room-bounds, IsUnsettled, GoesOn, goes-on}
use Rattle.laws.proofs.Primary.Homes.{HasHomes}
use Rattle.laws.proofs.Streams.Lawful.{MayFollow, epoch-items-grow, none-meets, meets-block, block-meets}
use Rattle.laws.proofs.Lists.Elements.{get-more}
use Rattle.laws.proofs.Lists.Picks.{filtered-pick, pick-none, none-short}
use Rattle.laws.proofs.Streams.Places.{placed-at, barriers-append}

-- an item of the last epoch, among its items
listed : (c : PrimaryConnection) (place : ℕ) (item : StreamItem) → epoch_of c.stream place ≡ last_epoch c.stream → slice_get c.stream place ≡ Some item
    → (j : ℕ) × (slice_get (items_of_epoch c.stream (last_epoch c.stream)) j ≡ Some (place, item))
listed c place item same at =
    let there : slice_get (placed c.stream) place ≡ Some (0 + place, item) = placed-at 0 c.stream place item at in
    let index : 0 + place ≡ place = omega arith in
    let here : slice_get (placed c.stream) place ≡ Some (place, item) = there ∙ ap (λ (k : ℕ). Some (k, item)) index in
    filtered-pick (λ (entry : ℕ × StreamItem). epoch_of c.stream entry.0 == last_epoch c.stream) (placed c.stream) place (place, item) here
    (eq-eqb (epoch_of c.stream place) (last_epoch c.stream) same)

-- an accepted write of the open last epoch is open itself
pub write-open : (h : PrimaryHistory) (c : PrimaryConnection) (k place : ℕ) (write : Write) → HasHomes h → slice_get h.connections k ≡ Some c → GoesOn h c
    → epoch_of c.stream place ≡ last_epoch c.stream → slice_get c.stream place ≡ Some (WriteItem write)
    → (m : ℕ) × (accepted : Accepted) × (slice_get (open_writes h) m ≡ Some accepted) × (accepted.write ≡ write)
write-open h c k place write homes there going same at =
    let home = homes.homed k place c write there at in
    let there = listed c place (WriteItem write) same at in
    let number : home.1.write.number ≡ write.number = ap (λ (w : Write). w.number) home.3 in
    let found = filtered-pick (is_open h) h.writes home.0 home.1 home.2 (going.unsettled.writes there.0 place write there.1 home.0 home.1 home.2 number) in
    (found.0, home.1, found.1, home.3)

-- a resync item of the open last epoch is under way
resync-under-way : (h : PrimaryHistory) (c : PrimaryConnection) (place block : ℕ) (contents : List ℕ) → GoesOn h c
    → epoch_of c.stream place ≡ last_epoch c.stream
    → slice_get c.stream place ≡ Some (ResyncItem block contents)
    → (m : ℕ) × (slice_get (under_way c) m ≡ Some (place, ResyncItem block contents))
resync-under-way h c place block contents going same at =
    let among = listed c place (ResyncItem block contents) same at in
    let fresh : was_resynced c place (ResyncItem block contents) ≡ false = going.unsettled.blocks among.0 place block contents among.1 in
    let there : slice_get (placed c.stream) place ≡ Some (0 + place, ResyncItem block contents) = placed-at 0 c.stream place (ResyncItem block contents) at in
    let index : 0 + place ≡ place = zero-add place in
    let here : slice_get (placed c.stream) place ≡ Some (place, ResyncItem block contents) = there
    ∙ ap (λ (n : ℕ). Some (n, ResyncItem block contents)) index in
    filtered-pick (λ (entry : ℕ × StreamItem). is_resync entry.1 && not (was_resynced c entry.0 entry.1)) (placed c.stream) place (
      place,
      ResyncItem block contents,
    ) here (ap not fresh)

-- A write without conflict may follow the stream.
pub write-follows : (h : PrimaryHistory) (k first : ℕ) (contents : List (List ℕ)) → HasHomes h → slice_get h.connections k ≡ Some (primary_connection h)
    → is_established (primary_connection h) ≡ true → epoch_is_over h ≡ false
    → is_some (conflict h (submission h first contents)) ≡ false
    → MayFollow (most_writes h.settings) (primary_connection h).stream (WriteItem (submission h first contents))
write-follows h k first contents homes there standing on free = record {
  barrier = λ epoch is. absurd (cc);
  rising = λ place a b at is.
      let home = homes.homed k place (primary_connection h) a there at in
      let number : a.number ≡ suc home.0 = ap (λ (w : Write). w.number) (sym home.3) ∙ homes.numbered home.0 home.1 home.2 in
      let within = slice_get_within h.writes home.0 home.1 home.2 in
      let same : w ≡ b = cc in
      let next : b.number ≡ suc (length h.writes) = ap (λ (x : Write). x.number) (sym same) in
      omega arith;
  apart = λ place item same at. go place item same at;
  small = λ is. room-bounds h.settings (epoch_size (primary_connection h).stream (last_epoch (primary_connection h).stream)) going.room;
}
  where
    w : Write
    w = submission h first contents

    going : GoesOn h (primary_connection h)
    going = goes-on h standing on

    go : (place : ℕ) (item : StreamItem) → epoch_of (primary_connection h).stream place ≡ last_epoch (primary_connection h).stream
        → slice_get (primary_connection h).stream place ≡ Some item
        → items_meet item (WriteItem (submission h first contents)) ≡ false
    go place (WriteItem v) same at =
        let found = write-open h (primary_connection h) k place v homes there (goes-on h standing on) same at in
        subst (λ x. overlap x (submission h first contents) ≡ false) found.3
        ((free-of-conflict h (submission h first contents) free).1 found.0 found.1 found.2)
    go place (ResyncItem block contents') same at =
        let found = resync-under-way h (primary_connection h) place block contents' (goes-on h standing on) same at in
        block-meets (submission h first contents) block contents'
        (pick-none (has_block_of (submission h first contents)) (under_way (primary_connection h)) found.0 (place, ResyncItem block contents')
        (way-apart h (submission h first contents) free standing) found.1)
    go place (BarrierItem epoch) same at = none-meets (BarrierItem epoch) (WriteItem (submission h first contents)) refl
    go place (SyncUuidItem word) same at = none-meets (SyncUuidItem word) (WriteItem (submission h first contents)) refl
    go place (UuidsItem tuple) same at = none-meets (UuidsItem tuple) (WriteItem (submission h first contents)) refl

-- A free block's resync item may follow the stream where none is under way.
pub resync-follows : (h : PrimaryHistory) (k block : ℕ) (contents : List ℕ) → HasHomes h → slice_get h.connections k ≡ Some (primary_connection h)
    → is_established (primary_connection h) ≡ true → epoch_is_over h ≡ false
    → nat_lt 0 (length (under_way (primary_connection h))) ≡ false → free_block h ≡ Some block
    → MayFollow (most_writes h.settings) (primary_connection h).stream (ResyncItem block contents)
resync-follows h k block contents homes there standing on alone free = record {
  barrier = λ epoch is. absurd (cc);
  rising = λ place a b at is. absurd (cc);
  apart = λ place item same at. go place item same at;
  small = λ is. absurd (cc);
}
  where
    go : (place : ℕ) (item : StreamItem) → epoch_of (primary_connection h).stream place ≡ last_epoch (primary_connection h).stream
        → slice_get (primary_connection h).stream place ≡ Some item
        → items_meet item (ResyncItem block contents) ≡ false
    go place (WriteItem v) same at =
        let found = write-open h (primary_connection h) k place v homes there (goes-on h standing on) same at in
        meets-block v block contents (subst (λ x. covers x block ≡ false) found.3 ((free-found h block free).apart found.0 found.1 found.2))
    go place (ResyncItem other contents') same at =
        let found = resync-under-way h (primary_connection h) place other contents' (goes-on h standing on) same at in
        absurd (none-short (under_way (primary_connection h)) found.0 (place, ResyncItem other contents') alone found.1)
    go place (BarrierItem epoch) same at = none-meets (BarrierItem epoch) (ResyncItem block contents) refl
    go place (SyncUuidItem word) same at = none-meets (SyncUuidItem word) (ResyncItem block contents) refl
    go place (UuidsItem tuple) same at = none-meets (UuidsItem tuple) (ResyncItem block contents) refl

-- One item more.

-- the items of the last epoch with one more that is no barrier
pub items-more : (stream : List StreamItem) (item : StreamItem) → is_barrier item ≡ false
    → items_of_epoch (stream ++ item ∷ []) (last_epoch (stream ++ item ∷ [])) ≡ items_of_epoch stream (last_epoch stream) ++ (length stream, item) ∷ []
items-more stream item plain =
    let split = barriers-append stream (item ∷ []) in
    let none : barriers_in (item ∷ []) ≡ 0 = ap (λ b. length (if b then item ∷ [] else [])) plain in
    let same : last_epoch (stream ++ item ∷ []) ≡ last_epoch stream = omega arith in
    ap (items_of_epoch (stream ++ item ∷ [])) same
    ∙ (epoch-items-grow stream item (last_epoch stream)
    ∙ ap (λ b. items_of_epoch stream (last_epoch stream) ++ cond b ((length stream, item) ∷ []) []) (eq-eqb (last_epoch stream) (last_epoch stream) refl))

-- Nothing of the last epoch is done with one item more: what was not done is not done still, and neither is that item.
pub unsettled-more : (h later : PrimaryHistory) (c d : PrimaryConnection) (item : StreamItem) → is_barrier item ≡ false → d.stream ≡ c.stream ++ item ∷ []
    → IsUnsettled h c
    → ((number : ℕ) → ((i : ℕ) (a : Accepted) → slice_get h.writes i ≡ Some a → a.write.number ≡ number → is_open h a ≡ true) → (i : ℕ) (a : Accepted)
    → slice_get later.writes i ≡ Some a → a.write.number ≡ number → is_open later a ≡ true)
    → ((write : Write) → item ≡ WriteItem write → (i : ℕ) (a : Accepted) → slice_get later.writes i ≡ Some a → a.write.number ≡ write.number
    → is_open later a ≡ true)
    → ((place block : ℕ) (contents : List ℕ) → was_resynced d place (ResyncItem block contents) ≡ was_resynced c place (ResyncItem block contents))
    → (is_resync item && was_resynced d (length c.stream) item) ≡ false
    → IsUnsettled later d
unsettled-more h later c d item plain longer before writes own blocks fresh = record {
  writes = λ j place write at i a ati same. elim (added j (place, WriteItem write) at) [
    | inl old ↦ writes write.number (λ k b atk named. before.writes j place write old k b atk named) i a ati same
    | inr new ↦ own write (ap (λ (x : ℕ × StreamItem). x.1) (sym new.1)) i a ati same
  ];
  blocks = λ j place block contents at. elim (added j (place, ResyncItem block contents) at) [
    | inl old ↦ blocks place block contents ∙ before.blocks j place block contents old
    | inr new ↦ subst (λ (x : ℕ × StreamItem). (is_resync x.1 && was_resynced d x.0 x.1) ≡ false) (sym new.1) fresh
  ];
}
  where
    added : (j : ℕ) (entry : ℕ × StreamItem) → slice_get (items_of_epoch d.stream (last_epoch d.stream)) j ≡ Some entry
        → (slice_get (items_of_epoch c.stream (last_epoch c.stream)) j ≡ Some entry)
        ⊎ ((j ≡ length (items_of_epoch c.stream (last_epoch c.stream))) × (entry ≡ (length c.stream, item)))
    added j entry at = get-more (items_of_epoch c.stream (last_epoch c.stream)) (length c.stream, item) j entry
        (ap (λ (l : List (ℕ × StreamItem)). slice_get l j) (sym (ap (λ (l : List StreamItem). items_of_epoch l (last_epoch l)) longer
        ∙ items-more c.stream item plain))
        ∙ at)
