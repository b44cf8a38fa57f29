-- An acknowledgement of a write: the log awaits it exactly where the history does.
use Rattle.std.proofs.Common.{ℕ, ◌≡◌, Bool, true, false, not, ◌&&◌, length, Option, Some, None, slice_get, refl, sym, ◌∙◌, ap, nat_lt, ◌==◌}
use Rattle.std.specs.Prelude.{find, is_some, option_map}
use Rattle.std.specs.List.{list_any}
use Rattle.std.proofs.lemmas.Bool.{both_ways, and_parts, not-true, eqb-true, eq-eqb, false_from_ne_true}
use Rattle.blocks.specs.Positions.{StreamPosition}
use Rattle.model.specs.Contents.{Write}
use Rattle.model.specs.Stream.{StreamItem, WriteItem, ResyncItem, BarrierItem, SyncUuidItem, UuidsItem, is_write}
use Rattle.model.specs.Frames.{Acknowledged, naming}
use Rattle.model.specs.Primary.{Accepted, PrimaryHistory, primary_connection, last_index, is_established, items_sent, same_naming, is_answered_by, is_answered}
use Rattle.model.specs.Primary.{is_alone}
use Rattle.model.specs.Primary.{is_released, unreleased}
use Rattle.model.specs.Acknowledgements.{names_sent, was_named}
use Rattle.transferlog.specs.Log.{awaits_in}
use Rattle.transferlog.specs.Ring.{write_at}
use Rattle.transferlog.specs.Writes.{awaits, is_at}
use Rattle.laws.proofs.Lists.Picks.{any-pick, pick-found, pick-filtered, filtered-pick}
use Rattle.laws.proofs.Primary.Ends.{established-parts}
use Rattle.laws.proofs.Primary.Homes.{HasHomes, open-at, alone-at}
use Rattle.laws.proofs.Primary.LastOpen.{IsLastOpen}
use Rattle.primary_protocol.specs.Core.{PrimaryState}
use Rattle.primary_protocol.specs.Taking.{named}
use Rattle.primary_protocol.specs.Leaves.{is_sent, logged_of, Leaves}
use Rattle.primary_protocol.proofs.Common.Homes.{sent-at, answered-at}
use Rattle.primary_protocol.proofs.Common.Numbers.{any-some}
use Rattle.primary_protocol.proofs.Common.Releasing.{IsHere, not-alone, confirmed-answered}
use Rattle.primary_protocol.proofs.LocalDisk.Writes.{one, found-is}
use Rattle.laws.proofs.Rules.Releases.{freed-linked, released-parts}

-- whether a write at a place of the last connection is answered, and sent
pub answered-here : (h : PrimaryHistory) (a : Accepted) (place : ℕ) → a.home ≡ Some (record { index = last_index h.connections; place = place })
    → slice_get h.connections (last_index h.connections) ≡ Some (primary_connection h)
    → is_answered h a ≡ is_answered_by h.settings.protocol (primary_connection h) place (WriteItem a.write)
answered-here h a place home there = answered-at h a (last_index h.connections) place (primary_connection h) home there

pub sent-here : (h : PrimaryHistory) (a : Accepted) (place : ℕ) → a.home ≡ Some (record { index = last_index h.connections; place = place })
    → slice_get h.connections (last_index h.connections) ≡ Some (primary_connection h) → is_sent h a ≡ nat_lt place (items_sent (primary_connection h))
sent-here h a place home there = sent-at h a (last_index h.connections) place (primary_connection h) home there

-- The write that an acknowledgement names.
pub record Names (h : PrimaryHistory) (ack : Acknowledged) : Type 0 where
  pub index : ℕ
  pub accepted : Accepted
  pub at : slice_get h.writes index ≡ Some accepted
  pub home : accepted.home ≡ Some (record { index = last_index h.connections; place = ack.place })
  pub there : slice_get (primary_connection h).stream ack.place ≡ Some (WriteItem accepted.write)
  pub naming_is : same_naming (naming ack.place (WriteItem accepted.write)) ack ≡ true
  pub sent : nat_lt ack.place (items_sent (primary_connection h)) ≡ true

module _ (s : PrimaryState) (h : PrimaryHistory) (left : Leaves s h) (homes : HasHomes h) (last : IsLastOpen h)
    (on : is_established (primary_connection h) ≡ true)
    (ack : Acknowledged) where
  last-there : slice_get h.connections (last_index h.connections) ≡ Some (primary_connection h)
  last-there = open-at h (established-parts (primary_connection h) on).0

  -- what a sent name names
  pub names : names_sent is_write ack (primary_connection h) ≡ true → Names h ack
  names sent_so = go (slice_get (primary_connection h).stream ack.place) refl sent_so
    where
      go : (v : Option StreamItem) → slice_get (primary_connection h).stream ack.place ≡ v
          → elim v as (λ _. Bool) [
            | None ↦ false
            | Some item ↦ (is_write item && same_naming (naming ack.place item) ack)
                && nat_lt ack.place (items_sent (primary_connection h))
          ] ≡ true → Names h ack
      go None is so = absurd (cc)
      go (Some (WriteItem write)) is so =
          let parts = and_parts (true && same_naming (naming ack.place (WriteItem write)) ack) (nat_lt ack.place (items_sent (primary_connection h))) so in
          let found = homes.homed (last_index h.connections) ack.place (primary_connection h) write last-there is in
          record {
            index = found.0;
            accepted = found.1;
            at = found.2;
            home = found.4;
            there = is ∙ ap (λ (w : Write). Some (WriteItem w)) (sym found.3);
            naming_is = ap (λ (w : Write). same_naming (naming ack.place (WriteItem w)) ack) found.3 ∙ parts.0;
            sent = parts.1;
          }
      go (Some (ResyncItem block contents)) is so = absurd (cc)
      go (Some (BarrierItem epoch)) is so = absurd (cc)
      go (Some (SyncUuidItem word)) is so = absurd (cc)
      go (Some (UuidsItem tuple)) is so = absurd (cc)

  named-is : (item : StreamItem) → slice_get (primary_connection h).stream ack.place ≡ Some item
      → was_named (is_answered_by h.settings.protocol) ack (primary_connection h) ≡ is_answered_by h.settings.protocol (primary_connection h) ack.place item
  named-is item at = ap (λ (v : Option StreamItem). elim v as
      (λ _. Bool) [ None ↦ false | Some item ↦ is_answered_by h.settings.protocol (primary_connection h) ack.place item ]) at

  -- where the history awaits it, the log does
  back : (names_sent is_write ack (primary_connection h) && not (was_named (is_answered_by h.settings.protocol) ack (primary_connection h))) ≡ true
      → awaits_in (write_at ack.number s.log.writes) (named ack) ≡ true
  back wants =
      let parts = and_parts (names_sent is_write ack (primary_connection h)) (not (was_named (is_answered_by h.settings.protocol) ack (primary_connection h)))
      wants in
      by-name (names parts.0) (not-true (was_named (is_answered_by h.settings.protocol) ack (primary_connection h)) parts.1)
    where
      by-name : Names h ack → was_named (is_answered_by h.settings.protocol) ack (primary_connection h) ≡ false
          → awaits_in (write_at ack.number s.log.writes) (named ack) ≡ true
      by-name n unnamed =
          let a : Accepted = n.accepted in
          let same = and_parts ((n.accepted.write.first == ack.first) && (n.accepted.write.number == ack.number))
          ((length n.accepted.write.contents == ack.count) && (ack.place == ack.place)) n.naming_is in
          let front = and_parts (n.accepted.write.first == ack.first) (n.accepted.write.number == ack.number) same.0 in
          let count = and_parts (length n.accepted.write.contents == ack.count) (ack.place == ack.place) same.1 in
          let unanswered : is_answered h n.accepted ≡ false = answered-here h n.accepted ack.place n.home last-there
          ∙ (sym (named-is (WriteItem n.accepted.write) n.there) ∙ unnamed) in
          let linked : is_alone h n.accepted ≡ false =
          alone-at h n.accepted (record { index = last_index h.connections; place = ack.place }) (primary_connection h) n.home last-there
          ∙ (established-parts (primary_connection h) on).0 in
          let held : is_released h n.accepted ≡ false = false_from_ne_true (is_released h n.accepted) (λ rel.
          let confirmed = freed-linked h n.accepted (released-parts h n.accepted rel).freed linked in
          both_ways (is_answered h n.accepted) unanswered
          (confirmed-answered h s.log homes last left.rest.log.protocol left.stream.on n.index n.accepted n.at linked confirmed)) in
          let kept = filtered-pick (λ x. not (is_released h x)) h.writes n.index n.accepted n.at (ap not held) in
          let some : list_any (λ (x : Accepted). x.write.number == ack.number) (unreleased h) ≡ true = any-pick (λ (x : Accepted). x.write.number == ack.number)
          (unreleased h) kept.0 n.accepted kept.1 front.1 in
          ap (λ v. awaits_in v (named ack)) (found-is s h ack.number left homes)
          ∙ (by-found (find (λ (x : Accepted). x.write.number == ack.number) (unreleased h)) refl some n.accepted n.index n.at
          (eqb-true n.accepted.write.number ack.number front.1)
          ∙ ((λ i. (is_at ack.place (n.home i) && (front.0 i && count.0 i))
          && (not (linked i) && ((sent-here h n.accepted ack.place n.home last-there ∙ n.sent) i && not (unanswered i))))
          ∙ ap (λ b. (b && true) && true) place-same))
        where
          place-same : (ack.place == ack.place) ≡ true
          place-same = eq-eqb ack.place ack.place refl

          by-found : (v : Option Accepted) → find (λ (x : Accepted). x.write.number == ack.number) (unreleased h) ≡ v
              → list_any (λ (x : Accepted). x.write.number == ack.number) (unreleased h) ≡ true
              → (a : Accepted) (i : ℕ) → slice_get h.writes i ≡ Some a → a.write.number ≡ ack.number
              → awaits_in (option_map (logged_of h) v) (named ack) ≡ awaits (named ack) (logged_of h a)
          by-found None none some a i at number =
              absurd (both_ways (list_any (λ (x : Accepted). x.write.number == ack.number) (unreleased h))
              (any-some (λ (x : Accepted). x.write.number == ack.number) (unreleased h) ∙ ap is_some none) some)
          by-found (Some b) found some a i at number =
              let there = pick-found (λ (x : Accepted). x.write.number == ack.number) (unreleased h) b found in
              let stood = pick-filtered (λ x. not (is_released h x)) h.writes there.0 b there.1 in
              ap (λ (x : Accepted). awaits (named ack) (logged_of h x))
              (one s h ack.number left homes stood.0 i b a stood.1 at (eqb-true b.write.number ack.number there.2 ∙ sym number))

  -- where the log awaits it, the history does
  forth : awaits_in (write_at ack.number s.log.writes) (named ack) ≡ true
      → (names_sent is_write ack (primary_connection h) && not (was_named (is_answered_by h.settings.protocol) ack (primary_connection h))) ≡ true
  forth awaited = by-found (find (λ (x : Accepted). x.write.number == ack.number) (unreleased h)) refl
      (sym (ap (λ v. awaits_in v (named ack)) (found-is s h ack.number left homes)) ∙ awaited)
    where
      by-found : (v : Option Accepted) → find (λ (x : Accepted). x.write.number == ack.number) (unreleased h) ≡ v
          → awaits_in (option_map (logged_of h) v) (named ack) ≡ true
          → (names_sent is_write ack (primary_connection h) && not (was_named (is_answered_by h.settings.protocol) ack (primary_connection h))) ≡ true
      by-found None none waits = absurd (cc)
      by-found (Some a) found waits =
          let there = pick-found (λ (x : Accepted). x.write.number == ack.number) (unreleased h) a found in
          let stood = pick-filtered (λ x. not (is_released h x)) h.writes there.0 a there.1 in
          let outer = and_parts (is_at ack.place a.home && ((a.write.first == ack.first) && (length a.write.contents == ack.count)))
          (not (is_alone h a) && (is_sent h a && not (is_answered h a))) waits in
          let named_so = and_parts (is_at ack.place a.home) ((a.write.first == ack.first) && (length a.write.contents == ack.count)) outer.0 in
          let ranges = and_parts (a.write.first == ack.first) (length a.write.contents == ack.count) named_so.1 in
          let states = and_parts (not (is_alone h a)) (is_sent h a && not (is_answered h a)) outer.1 in
          let rest = and_parts (is_sent h a) (not (is_answered h a)) states.1 in
          let here = not-alone h homes last stood.0 a stood.1 (not-true (is_alone h a) states.0) in
          let place : here.place ≡ ack.place = eqb-true here.place ack.place (sym (ap (is_at ack.place) here.home) ∙ named_so.0) in
          at-place a here place ranges.0 there.2 ranges.1 rest.0 (not-true (is_answered h a) rest.1)
        where
          at-place : (a : Accepted) (here : IsHere h a) → here.place ≡ ack.place → (a.write.first == ack.first) ≡ true → (a.write.number == ack.number) ≡ true
              → (length a.write.contents == ack.count) ≡ true → is_sent h a ≡ true → is_answered h a ≡ false
              → (names_sent is_write ack (primary_connection h) && not (was_named (is_answered_by h.settings.protocol) ack (primary_connection h))) ≡ true
          at-place a here place first number count sent unanswered =
              let there : slice_get (primary_connection h).stream ack.place ≡ Some (WriteItem a.write) = ap (slice_get (primary_connection h).stream)
              (sym place) ∙ here.there in
              let home : a.home ≡ Some (record { index = last_index h.connections; place = ack.place }) = here.home
              ∙ ap (λ n. let at : StreamPosition = record { index = last_index h.connections; place = n } in Some at) place in
              (λ i. (elim (there i) as (λ _. Bool) [
                | None ↦ false
                | Some item ↦ (is_write item && same_naming (naming ack.place item) ack)
                    && nat_lt ack.place (items_sent (primary_connection h))
              ])
              && not ((named-is (WriteItem a.write) there ∙ (sym (answered-here h a ack.place home last-there) ∙ unanswered)) i))
              ∙ λ i. ((true && ((first i && number i) && (count i && eq-eqb ack.place ack.place refl i))) && (sym (sent-here h a ack.place home last-there)
              ∙ sent) i) && true

  -- The log awaits an acknowledgement exactly where the history does.
  pub awaits-same : awaits_in (write_at ack.number s.log.writes) (named ack) ≡
      (names_sent is_write ack (primary_connection h) && not (was_named (is_answered_by h.settings.protocol) ack (primary_connection h)))
  awaits-same = go (awaits_in (write_at ack.number s.log.writes) (named ack))
      (names_sent is_write ack (primary_connection h) && not (was_named (is_answered_by h.settings.protocol) ack (primary_connection h))) refl refl
    where
      go : (b d : Bool) → awaits_in (write_at ack.number s.log.writes) (named ack) ≡ b
          → (names_sent is_write ack (primary_connection h) && not (was_named (is_answered_by h.settings.protocol) ack (primary_connection h))) ≡ d → b ≡ d
      go true d is so = sym (forth is) ∙ so
      go false true is so = absurd (both_ways (awaits_in (write_at ack.number s.log.writes) (named ack)) is (back so))
      go false false is so = refl
