-- When an epoch ends. No other file of proofs looks into `epoch_is_over`: where it is over, and where it goes on, lemmas say what
-- follows, and other lemmas conclude that it is over or goes on.
use Rattle.std.proofs.Common.{ℕ, zero, ◌≡◌, ◌<◌, inl, inr, Bool, true, false, not, ◌&&◌, ◌||◌, List, [], length, filter, Some, slice_get, refl, sym, ◌∙◌, ap}
use Rattle.std.proofs.Common.{subst, arith, ◌==◌, nat_le}
use Rattle.std.specs.List.{list_any}
use Rattle.std.proofs.lemmas.Bool.{both_ways, and_parts, and_from, and_right, or_parts, or_cases, or_from, or_left, or_right, not-true, not-false, eqb-true}
use Rattle.std.proofs.lemmas.Bool.{eq-eqb, leb-true, leb-false, lt-leb, false_from_ne_true}
use Rattle.blocks.specs.declared.settings.Settings.{Settings}
use Rattle.blocks.specs.SettingsRange.{IsInRange}
use Rattle.model.specs.Contents.{Write}
use Rattle.model.specs.Stream.{StreamItem, WriteItem, ResyncItem, BarrierItem, SyncUuidItem, UuidsItem, is_write, number_of, last_epoch, items_of_epoch}
use Rattle.model.specs.Stream.{epoch_size}
use Rattle.model.specs.Primary.{Accepted, Completion, PrimaryConnection, PrimaryHistory, primary_connection, is_established, was_resynced, is_failed, is_open}
use Rattle.model.specs.Primary.{is_resync}
use Rattle.model.specs.PrimarySteps.{is_settled, epoch_is_over}
use Rattle.laws.proofs.Lists.Elements.{get-there}
use Rattle.laws.proofs.Lists.Picks.{pick-any, any-pick, pick-none, any-none, pick-filtered}

-- How many writes an epoch may have.

-- as many as an epoch of a lawful stream has at most
abbrev pub most_writes : Settings → ℕ
most_writes settings = settings.max_epoch

-- an epoch may have a write
pub TakesWrites : Settings → Type 0
TakesWrites settings = 0 < settings.max_epoch

-- an epoch of this many writes has room for one more
pub HasRoom : Settings → ℕ → Type 0
HasRoom settings size = size < settings.max_epoch

-- settings in their ranges let an epoch have a write
pub takes-writes : (settings : Settings) → IsInRange settings → TakesWrites settings
unfolding TakesWrites
takes-writes settings range = range.max_epoch.0

-- an epoch with room has fewer than the most
pub room-bounds : (settings : Settings) (size : ℕ) → HasRoom settings size → size < most_writes settings
unfolding HasRoom
room-bounds settings size room = room

-- an epoch of no write has room
pub room-none : (settings : Settings) (size : ℕ) → TakesWrites settings → size ≡ 0 → HasRoom settings size
unfolding TakesWrites HasRoom
room-none settings size bound none = omega arith

-- What the last epoch is while it goes on.

-- Nothing of the last epoch is done: each of its writes is open, and none of its blocks is acknowledged.
pub record IsUnsettled (h : PrimaryHistory) (c : PrimaryConnection) : Type 0 where
  pub writes : (j place : ℕ) (write : Write) → slice_get (items_of_epoch c.stream (last_epoch c.stream)) j ≡ Some (place, WriteItem write)
      → (i : ℕ) (a : Accepted) → slice_get h.writes i ≡ Some a → a.write.number ≡ write.number → is_open h a ≡ true
  pub blocks : (j place block : ℕ) (contents : List ℕ) → slice_get (items_of_epoch c.stream (last_epoch c.stream)) j ≡ Some (place, ResyncItem block contents)
      → was_resynced c place (ResyncItem block contents) ≡ false

-- The last epoch goes on: nothing of it is done, and it has room for a write.
pub record GoesOn (h : PrimaryHistory) (c : PrimaryConnection) : Type 0 where
  pub unsettled : IsUnsettled h c
  pub room : HasRoom h.settings (epoch_size c.stream (last_epoch c.stream))

-- an accepted write of a number that is open no more
abbrev is_shut : PrimaryHistory → ℕ → Accepted → Bool
is_shut h number accepted = (true && (accepted.write.number == number)) && not (is_open h accepted)

-- the rule with this for the last end
abbrev over_at : PrimaryHistory → PrimaryConnection → Bool
over_at h c = is_established c
    && (list_any (is_settled h c) (items_of_epoch c.stream (last_epoch c.stream)) || nat_le h.settings.max_epoch (epoch_size c.stream (last_epoch c.stream)))

-- none settles its epoch where nothing of it is done
none-settled : (h : PrimaryHistory) (c : PrimaryConnection) → IsUnsettled h c
    → list_any (is_settled h c) (items_of_epoch c.stream (last_epoch c.stream)) ≡ false
none-settled h c unsettled = false_from_ne_true _ (λ some.
    let found = pick-any (is_settled h c) (items_of_epoch c.stream (last_epoch c.stream)) some in
    both_ways _ (item found.0 found.1.0 found.1.1 found.2) found.3)
  where
    item : (j place : ℕ) (x : StreamItem) → slice_get (items_of_epoch c.stream (last_epoch c.stream)) j ≡ Some (place, x) → is_settled h c (place, x) ≡ false
    item j place (WriteItem write) at = or_from _ _ (false_from_ne_true _ (λ some.
        let found = pick-any (is_shut h write.number) h.writes some in
        let its = and_parts (true && (found.1.write.number == write.number)) (not (is_open h found.1)) found.3 in
        let number : found.1.write.number ≡ write.number = eqb-true found.1.write.number write.number its.0 in
        both_ways (is_open h found.1) (not-true (is_open h found.1) its.1) (unsettled.writes j place write at found.0 found.1 found.2 number))) refl
    item j place (ResyncItem block contents) at = or_from _ _ (any-none _ h.writes (λ accepted. refl)) (unsettled.blocks j place block contents at)
    item j place (BarrierItem epoch) at = or_from _ _ (any-none _ h.writes (λ accepted. refl)) refl
    item j place (SyncUuidItem word) at = or_from _ _ (any-none _ h.writes (λ accepted. refl)) refl
    item j place (UuidsItem tuple) at = or_from _ _ (any-none _ h.writes (λ accepted. refl)) refl

-- and nothing of it is done where none settles it
none-done : (h : PrimaryHistory) (c : PrimaryConnection) → list_any (is_settled h c) (items_of_epoch c.stream (last_epoch c.stream)) ≡ false → IsUnsettled h c
none-done h c none = record {
  writes = λ j place write at i a ati same.
      let shut = (or_parts _ _ (pick-none (is_settled h c) (items_of_epoch c.stream (last_epoch c.stream)) j (place, WriteItem write) none at)).0 in
      let one = pick-none (is_shut h write.number) h.writes i a shut ati in
      let number : (a.write.number == write.number) ≡ true = eq-eqb a.write.number write.number same in
      not-false (is_open h a) (subst (λ b. (b && not (is_open h a)) ≡ false) number one);
  blocks = λ j place block contents at. (or_parts _ _ (pick-none (is_settled h c) (items_of_epoch c.stream (last_epoch c.stream)) j
      (place, ResyncItem block contents) none at)).1;
}

-- What follows from the rule.

-- where a stream stands and its last epoch is not over, that epoch goes on
pub goes-on : (h : PrimaryHistory) → is_established (primary_connection h) ≡ true → epoch_is_over h ≡ false → GoesOn h (primary_connection h)
unfolding HasRoom
goes-on h standing on =
    let c : PrimaryConnection = primary_connection h in
    let settled : Bool = list_any (is_settled h c) (items_of_epoch c.stream (last_epoch c.stream)) in
    let full : Bool = nat_le h.settings.max_epoch (epoch_size c.stream (last_epoch c.stream)) in
    let rest : (settled || full) ≡ false = subst (λ b. (b && (settled || full)) ≡ false) standing on in
    let parts = or_parts settled full rest in
    record { unsettled = none-done h c parts.0; room = leb-false h.settings.max_epoch (epoch_size c.stream (last_epoch c.stream)) parts.1 }

-- an epoch that is over is of a stream that stands
pub over-standing : (h : PrimaryHistory) → epoch_is_over h ≡ true → is_established (primary_connection h) ≡ true
over-standing h over = (and_parts (is_established (primary_connection h)) _ over).0

-- an epoch that is over had a write or a block
pub over-work : (h : PrimaryHistory) → TakesWrites h.settings → epoch_is_over h ≡ true
    → (j : ℕ) × (entry : ℕ × StreamItem) × (slice_get (items_of_epoch (primary_connection h).stream (last_epoch (primary_connection h).stream)) j ≡ Some entry)
    × ((is_write entry.1
    || is_resync entry.1) ≡ true)
unfolding TakesWrites
over-work h bound over = elim (or_cases (list_any (is_settled h c) entries) (nat_le h.settings.max_epoch (epoch_size c.stream (last_epoch c.stream)))
    (and_parts (is_established c) _ over).1) [
      | inl some ↦ let found = pick-any (is_settled h c) entries some in (found.0, found.1, found.2, work found.1 found.3)
      | inr many ↦
          let size = leb-true h.settings.max_epoch (epoch_size c.stream (last_epoch c.stream)) many in
          let first = get-there (filter (λ (entry : ℕ × StreamItem). is_write entry.1) entries) 0 (omega arith) in
          let found = pick-filtered (λ (entry : ℕ × StreamItem). is_write entry.1) entries 0 first.0 first.1 in
          (found.0, first.0, found.1, or_left (is_write first.0.1) (is_resync first.0.1) found.2)
    ]
  where
    c : PrimaryConnection
    c = primary_connection h

    entries : List (ℕ × StreamItem)
    entries = items_of_epoch (primary_connection h).stream (last_epoch (primary_connection h).stream)

    work : (entry : ℕ × StreamItem) → is_settled h (primary_connection h) entry ≡ true → (is_write entry.1 || is_resync entry.1) ≡ true
    work (place, WriteItem write) is = refl
    work (place, ResyncItem block contents) is = refl
    work (place, BarrierItem epoch) is = absurd (both_ways _ (or_from _ _ (any-none _ h.writes (λ accepted. refl)) refl) is)
    work (place, SyncUuidItem word) is = absurd (both_ways _ (or_from _ _ (any-none _ h.writes (λ accepted. refl)) refl) is)
    work (place, UuidsItem tuple) is = absurd (both_ways _ (or_from _ _ (any-none _ h.writes (λ accepted. refl)) refl) is)

-- What concludes it.

-- a last epoch that goes on is not over
pub not-over : (h : PrimaryHistory) (c : PrimaryConnection) → primary_connection h ≡ c → GoesOn h c → epoch_is_over h ≡ false
unfolding HasRoom
not-over h c last on =
    ap (over_at h) last
    ∙ and_right (is_established c) _
    (or_from _ _ (none-settled h c on.unsettled) (lt-leb h.settings.max_epoch (epoch_size c.stream (last_epoch c.stream)) on.room))

-- no epoch of a stream that does not stand is over
pub down-on : (h : PrimaryHistory) → is_established (primary_connection h) ≡ false → epoch_is_over h ≡ false
down-on h none = ap (λ b. b && (list_any (is_settled h (primary_connection h))
    (items_of_epoch (primary_connection h).stream (last_epoch (primary_connection h).stream))
    || nat_le h.settings.max_epoch (epoch_size (primary_connection h).stream (last_epoch (primary_connection h).stream)))) none

-- nothing is in the last epoch, as behind a barrier
pub empty-on : (h : PrimaryHistory) (c : PrimaryConnection) → primary_connection h ≡ c → TakesWrites h.settings
    → items_of_epoch c.stream (last_epoch c.stream) ≡ []
    → epoch_is_over h ≡ false
empty-on h c last bound none = not-over h c last (record {
  unsettled = record {
    writes = λ j place write at i a ati same. absurd (let no = ap (λ (l : List (ℕ × StreamItem)). slice_get l j) (sym none) ∙ at in cc);
    blocks = λ j place block contents at. absurd (let no = ap (λ (l : List (ℕ × StreamItem)). slice_get l j) (sym none) ∙ at in cc);
  };
  room = room-none h.settings (epoch_size c.stream (last_epoch c.stream)) bound (ap (λ (l : List (ℕ × StreamItem)). length (filter (λ
      (entry : ℕ × StreamItem). is_write entry.1) l)) none);
})

-- where nothing of the last epoch is done, it is over if it has as many writes as may be
pub over-full : (h : PrimaryHistory) (c : PrimaryConnection) (most : ℕ) → primary_connection h ≡ c → is_established c ≡ true → most ≡ most_writes h.settings
    → IsUnsettled h c
    → epoch_is_over h ≡ nat_le most (epoch_size c.stream (last_epoch c.stream))
over-full h c most last standing same unsettled =
    ap (over_at h) last
    ∙ λ i. standing i && (none-settled h c unsettled i || nat_le (sym same i) (epoch_size c.stream (last_epoch c.stream)))

-- a write of the last epoch is open no more
pub over-by-write : (h : PrimaryHistory) (c : PrimaryConnection) → primary_connection h ≡ c → is_established c ≡ true → (j place : ℕ) (write : Write)
    → slice_get (items_of_epoch c.stream (last_epoch c.stream)) j ≡ Some (place, WriteItem write)
    → (i : ℕ) (a : Accepted) → slice_get h.writes i ≡ Some a → a.write.number ≡ write.number → is_open h a ≡ false → epoch_is_over h ≡ true
over-by-write h c last standing j place write at i a ati same shut =
    ap (over_at h) last
    ∙ and_from _ _ standing (or_left _ _ (any-pick (is_settled h c) (items_of_epoch c.stream (last_epoch c.stream)) j (place, WriteItem write) at
    (or_left _ _ (any-pick (is_shut h write.number) h.writes i a ati (and_from (true && (a.write.number == write.number)) (not (is_open h a))
    (eq-eqb a.write.number write.number same) (ap not shut))))))

-- a block of the last epoch is acknowledged
pub over-by-block : (h : PrimaryHistory) (c : PrimaryConnection) → primary_connection h ≡ c → is_established c ≡ true → (j place block : ℕ) (contents : List ℕ)
    → slice_get (items_of_epoch c.stream (last_epoch c.stream)) j ≡ Some (place, ResyncItem block contents)
    → was_resynced c place (ResyncItem block contents) ≡ true → epoch_is_over h ≡ true
over-by-block h c last standing j place block contents at acknowledged =
    ap (over_at h) last
    ∙ and_from _ _ standing (or_left _ _ (any-pick (is_settled h c) (items_of_epoch c.stream (last_epoch c.stream)) j (place, ResyncItem block contents) at
    (or_right (list_any (λ (accepted : Accepted). (false && (accepted.write.number == zero)) && not (is_open h accepted)) h.writes) _ acknowledged)))

-- a stream goes on where nothing of its last epoch changes: the epoch is over if it was
pub over-same : (h later : PrimaryHistory) (c d : PrimaryConnection) → primary_connection h ≡ c → primary_connection later ≡ d
    → is_established d ≡ is_established c → d.stream ≡ c.stream
    → later.settings ≡ h.settings → later.writes ≡ h.writes → later.journal ≡ h.journal
    → ((place : ℕ) (item : StreamItem) → was_resynced d place item ≡ was_resynced c place item) → epoch_is_over later ≡ epoch_is_over h
over-same h later c d was last standing stream settings writes journal blocks =
    ap (over_at later) last
    ∙ ((λ i. standing i && (list_any (λ (entry : ℕ × StreamItem). list_any (λ (accepted : Accepted). (is_write entry.1 &&
    (accepted.write.number == number_of entry.1)) && not (not (list_any (λ (x : Completion). x.write.number == accepted.write.number) (journal i))
    && not (is_failed accepted.outcome))) (writes i)
    || (is_resync entry.1 && blocks entry.0 entry.1 i)) (items_of_epoch (stream i) (last_epoch (stream i))) || nat_le (settings i).max_epoch (epoch_size
    (stream i) (last_epoch (stream i)))))
    ∙ sym (ap (over_at h) was))
