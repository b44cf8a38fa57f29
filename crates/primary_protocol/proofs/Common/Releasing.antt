-- When the log releases a write, and what a released write is.
use Rattle.std.proofs.Common.{ℕ, ◌≡◌, ◌+◌, inl, inr, Bool, true, false, not, ◌&&◌, ◌||◌, List, Option, Some, None, slice_get, refl, sym, ◌∙◌, ap, subst, arith}
use Rattle.std.proofs.Common.{nat_le}
use Rattle.std.proofs.lemmas.Bool.{cases_Bool, both_ways, leb-true}
use Rattle.std.proofs.Math.Bool.{and-false, or-true}
use Rattle.blocks.specs.Positions.{StreamPosition}
use Rattle.blocks.specs.declared.settings.Protocol.{Protocol}
use Rattle.model.specs.Stream.{StreamItem, WriteItem, epoch_of}
use Rattle.model.specs.Primary.{LocalOutcome, Waiting, OnDisk, Failed, Accepted, PrimaryConnection, PrimaryHistory, primary_connection, last_index}
use Rattle.model.specs.Primary.{is_established, is_waiting, is_on_disk}
use Rattle.model.specs.Primary.{is_failed, is_alone, is_answered, is_answered_by, is_confirmed, is_released, completes}
use Rattle.transferlog.specs.Log.{LogState}
use Rattle.transferlog.specs.Writes as log
use Rattle.laws.proofs.Primary.Homes.{HasHomes, alone-at, alone-homeless, confirmed-at}
use Rattle.laws.proofs.Primary.LastOpen.{IsLastOpen, open-is-last}
use Rattle.primary_protocol.specs.Leaves.{logged_of, LeavesEpochs}
use Rattle.primary_protocol.proofs.Common.Homes.{answered-at}
use Rattle.primary_protocol.proofs.Common.WriteStates.{settled-seen, not-not, open-seen}
use Rattle.laws.proofs.Rules.Releases.{freed-linked, released-parts, released-with, IsReleased}

-- a write on the standing stream
pub record IsHere (h : PrimaryHistory) (a : Accepted) : Type 0 where
  pub place : ℕ
  pub home : a.home ≡ Some (record { index = last_index h.connections; place = place })
  pub connected : slice_get h.connections (last_index h.connections) ≡ Some (primary_connection h)
  pub there : slice_get (primary_connection h).stream place ≡ Some (WriteItem a.write)
  pub standing : is_established (primary_connection h) ≡ true

-- a write that is not alone is there
pub not-alone : (h : PrimaryHistory) → HasHomes h → IsLastOpen h → (i : ℕ) (a : Accepted) → slice_get h.writes i ≡ Some a → is_alone h a ≡ false → IsHere h a
not-alone h homes last i a at linked = go a.home refl
  where
    go : (v : Option StreamPosition) → a.home ≡ v → IsHere h a
    go None is = absurd (both_ways (is_alone h a) linked (alone-homeless h a is))
    go (Some home) is =
        let was = homes.housed i home.index home.place a at is in
        let unshut : was.0.closed ≡ false = sym (alone-at h a home was.0 is was.1) ∙ linked in
        let ends = open-is-last h home.index was.0 last was.1 unshut in
        let there : slice_get (primary_connection h).stream home.place ≡ Some (WriteItem a.write) =
        subst (λ (c : PrimaryConnection). slice_get c.stream home.place ≡ Some (WriteItem a.write)) ends.1 was.2 in
        let connected : slice_get h.connections (last_index h.connections) ≡ Some (primary_connection h) =
        subst (λ n. slice_get h.connections n ≡ Some (primary_connection h)) ends.0
        (was.1 ∙ ap (λ (c : PrimaryConnection). Some c) ends.1) in
        let open_so : (primary_connection h).closed ≡ false = ap (λ (c : PrimaryConnection). c.closed) (sym ends.1) ∙ unshut in
        record {
          place = home.place;
          home = is ∙ ap (λ n. let at : StreamPosition = record { index = n; place = home.place } in Some at) ends.0;
          connected = connected;
          there = there;
          standing = begun (primary_connection h).begun refl home.place there connected open_so;
        }
      where
        begun : (b : Bool) → (primary_connection h).begun ≡ b → (place : ℕ) → slice_get (primary_connection h).stream place ≡ Some (WriteItem a.write)
            → slice_get h.connections (last_index h.connections) ≡ Some (primary_connection h) → (primary_connection h).closed ≡ false
            → is_established (primary_connection h) ≡ true
        begun true is place there connected open_so = λ i. not (open_so i) && is i
        begun false is place there connected open_so =
            absurd (let none : slice_get (primary_connection h).stream place ≡ None = ap (λ (s : List StreamItem). slice_get s place)
            (homes.empty (last_index h.connections) (primary_connection h) connected is) in cc)

module _ (h : PrimaryHistory) (l : LogState) (homes : HasHomes h) (last : IsLastOpen h) (protocol : l.protocol ≡ h.settings.protocol)
    (stream : is_established (primary_connection h) ≡ true → LeavesEpochs l (primary_connection h)) where
  -- its epoch is acknowledged where its number is confirmed
  pub confirmed-number : (i : ℕ) (a : Accepted) → slice_get h.writes i ≡ Some a → is_alone h a ≡ false
      → is_confirmed h a ≡ nat_le a.write.number l.acknowledged_through
  confirmed-number i a at linked =
      let here = not-alone h homes last i a at linked in
      let e = stream here.standing in
      let epoch : ℕ = epoch_of (primary_connection h).stream here.place in
      let none : l.acknowledged_through + 0 ≡ l.acknowledged_through = omega arith in
      let same : e.acked + 0 ≡ e.acked = omega arith in
      confirmed-at h a (record { index = last_index h.connections; place = here.place }) (primary_connection h) here.home here.connected
      ∙ (e.acknowledged epoch (omega arith)
      ∙ (ap (nat_le epoch) (sym same) ∙ (sym (e.upto 0 here.place a.write (omega arith) here.there) ∙ ap (nat_le a.write.number) none)))

  -- the log releases what the history does
  pub released-seen : (i : ℕ) (a : Accepted) → slice_get h.writes i ≡ Some a → log.is_released l.acknowledged_through (logged_of h a) ≡ is_released h a
  released-seen i a at = released-with h a _ _ _ (settled-seen a.outcome) (not-not (is_alone h a)) (confirmed-number i a at)

  -- a write that is confirmed is answered
  pub confirmed-answered : (i : ℕ) (a : Accepted) → slice_get h.writes i ≡ Some a → is_alone h a ≡ false → is_confirmed h a ≡ true → is_answered h a ≡ true
  confirmed-answered i a at linked confirmed =
      let here = not-alone h homes last i a at linked in
      let e = stream here.standing in
      let epoch : ℕ = epoch_of (primary_connection h).stream here.place in
      let within : nat_le epoch e.acked ≡ true = sym (e.acknowledged epoch (omega arith))
      ∙ (sym (confirmed-at h a (record { index = last_index h.connections; place = here.place }) (primary_connection h) here.home here.connected)
      ∙ confirmed) in
      answered-at h a (last_index h.connections) here.place (primary_connection h) here.home here.connected
      ∙ (ap (λ (p : Protocol). is_answered_by p (primary_connection h) here.place (WriteItem a.write)) (sym protocol)
      ∙ e.answered here.place a.write here.there (leb-true epoch e.acked within))

  -- what is released is open no more
  pub released-not-open : (i : ℕ) (a : Accepted) → slice_get h.writes i ≡ Some a → is_released h a ≡ true → log.is_open (logged_of h a) ≡ false
  released-not-open i a at released = open-seen h a ∙ by-outcome a.outcome refl
    where
      parts : IsReleased h a
      parts = released-parts h a released

      returned : (is_answered h a || is_alone h a) ≡ true
      returned = elim (cases_Bool (is_alone h a)) [
        | inl alone ↦ ap (λ b. is_answered h a || b) alone ∙ or-true (is_answered h a)
        | inr linked ↦
            ap (λ b. b || is_alone h a) (confirmed-answered i a at linked (freed-linked h a parts.freed linked))
      ]

      by-outcome : (o : LocalOutcome) → a.outcome ≡ o → (not (completes h a) && not (is_failed a.outcome)) ≡ false
      by-outcome Waiting is = absurd (both_ways (is_waiting a.outcome) parts.done (ap is_waiting is))
      by-outcome OnDisk is = λ j. not (is_on_disk (is j) && returned j) && not (is_failed (is j))
      by-outcome (Failed offsets) is = ap (λ (o : LocalOutcome). not (completes h a) && not (is_failed o)) is ∙ and-false (not (completes h a))
