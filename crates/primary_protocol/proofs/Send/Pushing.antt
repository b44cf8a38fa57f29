-- An item of the stream is pushed: what an end, and what a write, sees of it.
use Rattle.std.proofs.Common.{ℕ, suc, ◌≡◌, ◌-◌, ◌<◌, ◌≤◌, inl, inr, Bool, false, not, length, drop, Option, Some, None, slice_get, refl, sym, ◌∙◌, ap}
use Rattle.std.proofs.Common.{subst, arith, nat_lt}
use Rattle.std.proofs.lemmas.Bool.{cases_lt, lt-ltb, le-ltb}
use Rattle.blocks.specs.Positions.{StreamPosition}
use Rattle.blocks.specs.declared.settings.Protocol.{Protocol}
use Rattle.model.specs.Stream.{WriteItem}
use Rattle.model.specs.Primary.{Accepted, PrimaryConnection, PrimaryHistory, no_primary_connection, primary_connection, change_last, with_primary_connection}
use Rattle.model.specs.Primary.{items_sent, is_answered_by, is_answered}
use Rattle.model.specs.Primary.{is_alone}
use Rattle.laws.proofs.Lists.Last.{get-change}
use Rattle.laws.proofs.Primary.Homes.{HasHomes}
use Rattle.laws.proofs.Primary.Moves.{pushing}
use Rattle.primary_protocol.specs.Core.{UnderWay, EndState}
use Rattle.primary_protocol.specs.Leaves.{is_sent, logged_of, LeavesEnd, UnderWayLeft}
use Rattle.primary_protocol.proofs.Send.Due.{drop-more}
use Rattle.laws.proofs.Rules.Answered.{answered-alike}
use Rattle.laws.proofs.Primary.WriteConnections.{alone-seen}

-- Ends after a push.

-- what is under way stays so
pub way-pushed : (v : Option UnderWay) (c : PrimaryConnection) → UnderWayLeft v c → UnderWayLeft v (pushing c)
way-pushed None c is = is
way-pushed (Some way) c is = is

-- a frame of the hello
pub hello-pushed : (e : EndState) (c : PrimaryConnection) → c.pushed < 3 → LeavesEnd e c → LeavesEnd (record e { hello_sent = suc e.hello_sent }) (pushing c)
hello-pushed e c early l = record {
  is_open = l.is_open;
  plain = l.plain;
  sync = l.sync;
  loss = l.loss;
  hello = l.hello;
  hello_received = l.hello_received;
  hello_sent = let was = l.hello_sent in omega arith;
  pushed = omega arith;
  unsent = l.unsent ∙ ap (λ n. drop n c.stream) (omega arith);
  resync = l.resync;
  under_way = way-pushed e.under_way c l.under_way;
  unasked = l.unasked;
  unbegun = l.unbegun;
}

-- an item of the stream
pub item-pushed : (e : EndState) (c : PrimaryConnection) → 3 ≤ c.pushed → (c.pushed - 3) < length c.stream → LeavesEnd e c
    → LeavesEnd (record e { unsent = drop 1 e.unsent }) (pushing c)
item-pushed e c late within l = record {
  is_open = l.is_open;
  plain = l.plain;
  sync = l.sync;
  loss = l.loss;
  hello = l.hello;
  hello_received = l.hello_received;
  hello_sent = let was = l.hello_sent in omega arith;
  pushed = omega arith;
  unsent = let next_is : suc (c.pushed - 3) ≡ suc c.pushed - 3 = omega arith in ap (drop 1) l.unsent
      ∙ (drop-more (c.pushed - 3) c.stream ∙ ap (λ n. drop n c.stream) next_is);
  resync = l.resync;
  under_way = way-pushed e.under_way c l.under_way;
  unasked = l.unasked;
  unbegun = l.unbegun;
}

-- What a write sees of its connection, which is the same but for the last one.
pub looked-at : {X : Type 0} (see : Option PrimaryConnection → X) (h : PrimaryHistory) (k : ℕ) (c : PrimaryConnection) → slice_get h.connections k ≡ Some c
    → (c ≡ primary_connection h → see (Some (pushing c)) ≡ see (Some c))
    → see (slice_get (change_last pushing h.connections) k) ≡ see (slice_get h.connections k)
looked-at see h k c at same = elim (get-change pushing (no_primary_connection h.tuple) h.connections k c at) [
  | inl stays ↦ ap see (stays ∙ sym at)
  | inr changed ↦ ap see changed.0 ∙ (same changed.1 ∙ ap see (sym at))
]

-- the logged write, by what changes in it
pub logged-with : (h g : PrimaryHistory) (a : Accepted) → is_alone g a ≡ is_alone h a → (sent answered : Bool) → is_sent g a ≡ sent → is_answered g a ≡ answered
    → logged_of g a ≡ record (logged_of h a) { sent = sent; answered = answered }
logged-with h g a alone sent answered sent_is answered_is = λ j. record (logged_of h a) { linked = not (alone j); sent = sent_is j; answered = answered_is j }

pub alone-pushed : (h : PrimaryHistory) (a : Accepted) → is_alone (with_primary_connection pushing h) a ≡ is_alone h a
alone-pushed h = alone-seen h (with_primary_connection pushing h) pushing refl refl

-- A write whose frame is not the one that is pushed sees nothing of it.
pub unseen : (h : PrimaryHistory) → HasHomes h → (i : ℕ) (a : Accepted) → slice_get h.writes i ≡ Some a
    → ((place : ℕ) → slice_get (primary_connection h).stream place ≡ Some (WriteItem a.write)
    → nat_lt place (items_sent (pushing (primary_connection h))) ≡ nat_lt place (items_sent (primary_connection h)))
    → logged_of (with_primary_connection pushing h) a ≡ logged_of h a
unseen h homes i a at same = logged-with h (with_primary_connection pushing h) a (alone-pushed h a) (is_sent h a) (is_answered h a) (sent a.home refl)
    (answered a.home refl)
  where
    sent : (v : Option StreamPosition) → a.home ≡ v
        → elim v as (λ _. Bool) [
          | None ↦ false
          | Some home ↦ elim (slice_get (change_last pushing h.connections) home.index) as
              (λ _. Bool) [ None ↦ false | Some c ↦ nat_lt home.place (items_sent c) ]
        ]
        ≡ elim v as (λ _. Bool) [
          | None ↦ false
          | Some home ↦ elim (slice_get h.connections home.index) as
              (λ _. Bool) [ None ↦ false | Some c ↦ nat_lt home.place (items_sent c) ]
        ]
    sent None is = refl
    sent (Some home) is =
        let was = homes.housed i home.index home.place a at is in
        looked-at (λ v. elim v as (λ _. Bool) [ None ↦ false | Some c ↦ nat_lt home.place (items_sent c) ]) h home.index was.0 was.1
        (λ last. ap (λ (c : PrimaryConnection). nat_lt home.place (items_sent (pushing c))) last
        ∙ (same home.place (subst (λ (c : PrimaryConnection). slice_get c.stream home.place ≡ Some (WriteItem a.write)) last was.2)
        ∙ ap (λ (c : PrimaryConnection). nat_lt home.place (items_sent c)) (sym last)))

    by-protocol : (asked : Protocol) (place : ℕ) → nat_lt place (items_sent (pushing (primary_connection h))) ≡ nat_lt place (items_sent (primary_connection h))
        → is_answered_by asked (pushing (primary_connection h)) place (WriteItem a.write) ≡ is_answered_by asked (primary_connection h) place
        (WriteItem a.write)
    by-protocol asked place so = answered-alike asked (primary_connection h) (pushing (primary_connection h)) place (WriteItem a.write) so refl refl

    answered : (v : Option StreamPosition) → a.home ≡ v
        → elim v as (λ _. Bool) [
          | None ↦ false
          | Some home ↦ elim (slice_get (change_last pushing h.connections) home.index) as
              (λ _. Bool) [ None ↦ false | Some c ↦ is_answered_by h.settings.protocol c home.place (WriteItem a.write) ]
        ]
        ≡ elim v as (λ _. Bool) [
          | None ↦ false
          | Some home ↦ elim (slice_get h.connections home.index) as
              (λ _. Bool) [ None ↦ false | Some c ↦ is_answered_by h.settings.protocol c home.place (WriteItem a.write) ]
        ]
    answered None is = refl
    answered (Some home) is =
        let was = homes.housed i home.index home.place a at is in
        looked-at (λ v. elim v as (λ _. Bool) [ None ↦ false | Some c ↦ is_answered_by h.settings.protocol c home.place (WriteItem a.write) ])
        h home.index was.0 was.1 (λ last. ap (λ (c : PrimaryConnection). is_answered_by h.settings.protocol (pushing c) home.place (WriteItem a.write)) last
        ∙ (by-protocol h.settings.protocol home.place (same home.place (subst (λ (c : PrimaryConnection). slice_get c.stream home.place
        ≡ Some (WriteItem a.write)) last was.2))
        ∙ ap (λ (c : PrimaryConnection). is_answered_by h.settings.protocol c home.place (WriteItem a.write)) (sym last)))

-- Another place than the one that is pushed.
pub other-place : (c : PrimaryConnection) (place : ℕ) → (place ≡ items_sent c → ⊥) → nat_lt place (items_sent (pushing c)) ≡ nat_lt place (items_sent c)
other-place c place other = elim (cases_lt place (items_sent c)) [
  | inl early ↦ lt-ltb place (items_sent (pushing c)) (omega arith) ∙ sym (lt-ltb place (items_sent c) early)
  | inr late ↦ elim (cases_lt (items_sent c) place) [
    | inl past ↦ le-ltb place (items_sent (pushing c)) (omega arith) ∙ sym (le-ltb place (items_sent c) late)
    | inr upto ↦ absurd (other (omega arith))
  ]
]
