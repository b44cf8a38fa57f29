-- A new primary, and a primary that opens its end.
use Rattle.std.proofs.Common.{ℕ, zero, suc, ◌≡◌, Bool, true, false, not, ◌&&◌, List, [], ◌∷◌, ◌++◌, length, map, Option, Some, None, slice_get, Ok, refl}
use Rattle.std.proofs.Common.{sym, ◌∙◌, ap, subst, arith, nat_lt}
use Rattle.std.specs.Prelude.{replicate, if◌then◌else◌}
use Rattle.std.proofs.lemmas.Bool.{both_ways}
use Rattle.std.proofs.lemmas.List.{length-append}
use Rattle.blocks.specs.Positions.{StreamPosition}
use Rattle.blocks.specs.declared.tuple.Tuple.{Tuple}
use Rattle.blocks.specs.declared.outcome.What.TheVariants as what
use Rattle.blocks.specs.declared.outcome.Reply.TheVariants as reply
use Rattle.blocks.specs.Ranges.{below}
use Rattle.model.specs.Stream.{WriteItem, epoch_of}
use Rattle.model.specs.Refusals.{done_with}
use Rattle.model.specs.Primary.{Accepted, PrimaryConnection, PrimaryHistory, no_primary_connection, primary_connection, last_index, is_established, items_sent}
use Rattle.model.specs.Primary.{is_answered_by, is_answered, is_alone}
use Rattle.model.specs.Primary.{is_confirmed, is_released, barrier_acknowledged, unreleased, open_writes, under_way, new_primary_connection}
use Rattle.model.specs.PrimarySteps as step
use Rattle.laws.proofs.Rules.Completions.{completes-same}
use Rattle.laws.proofs.Rules.EpochEnds.{down-on}
use Rattle.laws.proofs.Lists.Elements.{get-left}
use Rattle.laws.proofs.Lists.Last.{last-more}
use Rattle.laws.proofs.Lists.Picks.{pick-filtered}
use Rattle.laws.proofs.Primary.Homes.{HasHomes}
use Rattle.primary_protocol.specs.Core.{PrimaryState}
use Rattle.primary_protocol.specs.Transitions as transition
use Rattle.primary_protocol.specs.Leaves.{is_sent, logged_of, holding_item, holding_write, LeavesActivity, EndLeft, Leaves}
use Rattle.primary_protocol.specs.Steps.{Agrees, plainly, FreshIsOpening, OpensAgree}
use Rattle.primary_protocol.proofs.Common.Filters.{filter-at, map-at}
use Rattle.primary_protocol.proofs.Common.Reached.{reached-ordered, tested-agrees, end-open}
use Rattle.primary_protocol.proofs.Common.Marks.{length-below}
use Rattle.primary_protocol.proofs.Common.NothingFollows.{still, down-rests}
use Rattle.std.proofs.Common.{is_some}
use Rattle.laws.proofs.Rules.Memory.{may-open, open-tests-by}
use Rattle.laws.proofs.Rules.Releases.{released-same}

-- a new primary
pub fresh-is : FreshIsOpening
fresh-is settings disk tuple marks = record {
  rest = record {
    settings = refl;
    tuple = refl;
    peer = refl;
    connections = refl;
    log = record { protocol = refl; backlog = refl; accepted = refl; connection = refl; writes = refl; last_writes = zeros settings.blocks };
    entries = record { entries = refl; receipts = λ i number at. absurd (cc) };
    marks = refl;
    held = refl;
    activity = record { limit = refl; counts = λ extent. refl; active = λ extent some. absurd (omega arith); once = tt; few = omega arith };
    end = refl;
    quiet = λ i a at. absurd (cc);
  };
  stream = record { max_epoch = refl; on = λ so. absurd (cc); here = λ so. absurd (cc); off = λ none. refl };
}
  where
    zeros-below : (n : ℕ) (xs : List ℕ) → length xs ≡ n → replicate {A = ℕ} n 0 ≡ map (λ block. 0) xs
    zeros-below zero [] is = refl
    zeros-below zero (x ∷ xs) is = absurd (omega arith)
    zeros-below (suc n) [] is = absurd (omega arith)
    zeros-below (suc n) (x ∷ xs) is = ap (λ l. 0 ∷ l) (zeros-below n xs (omega arith))

    zeros : (n : ℕ) → replicate {A = ℕ} n 0 ≡ map (λ block. 0) (below n)
    zeros n = zeros-below n (below n) (length-below n)

-- A connection more is not seen by the writes.
module _ (h : PrimaryHistory) (new : PrimaryConnection) (homes : HasHomes h) where
  abbrev more : PrimaryHistory
  more = record h { connections = h.connections ++ new ∷ [] }

  -- a look-up of a write's connection
  looked : {X : Type 0} (none : X) (see : StreamPosition → Option PrimaryConnection → X) (i : ℕ) (a : Accepted) → slice_get h.writes i ≡ Some a
      → elim a.home as (λ _. X) [ None ↦ none | Some home ↦ see home (slice_get (h.connections ++ new ∷ []) home.index) ] ≡ elim a.home as
      (λ _. X) [ None ↦ none | Some home ↦ see home (slice_get h.connections home.index) ]
  looked {X} none see i a at = go a.home refl
    where
      go : (v : Option StreamPosition) → a.home ≡ v
          → elim v as (λ _. X) [ None ↦ none | Some home ↦ see home (slice_get (h.connections ++ new ∷ []) home.index) ] ≡ elim v as
          (λ _. X) [ None ↦ none | Some home ↦ see home (slice_get h.connections home.index) ]
      go None is = refl
      go (Some home) is =
          let was = homes.housed i home.index home.place a at is in
          ap (see home) (get-left h.connections (new ∷ []) home.index was.0 was.1 ∙ sym was.1)

  alone-more : (i : ℕ) (a : Accepted) → slice_get h.writes i ≡ Some a → is_alone (record h { connections = h.connections ++ new ∷ [] }) a ≡ is_alone h a
  alone-more = looked true (λ home v. elim v as (λ _. Bool) [ None ↦ true | Some c ↦ c.closed ])

  sent-more : (i : ℕ) (a : Accepted) → slice_get h.writes i ≡ Some a → is_sent (record h { connections = h.connections ++ new ∷ [] }) a ≡ is_sent h a
  sent-more = looked false (λ home v. elim v as (λ _. Bool) [ None ↦ false | Some c ↦ nat_lt home.place (items_sent c) ])

  answered-more : (i : ℕ) (a : Accepted) → slice_get h.writes i ≡ Some a
      → is_answered (record h { connections = h.connections ++ new ∷ [] }) a ≡ is_answered h a
  answered-more i a =
      looked false (λ home v. elim v as (λ _. Bool) [ None ↦ false | Some c ↦ is_answered_by h.settings.protocol c home.place (WriteItem a.write) ])
      i a

  confirmed-more : (i : ℕ) (a : Accepted) → slice_get h.writes i ≡ Some a
      → is_confirmed (record h { connections = h.connections ++ new ∷ [] }) a ≡ is_confirmed h a
  confirmed-more = looked false (λ home v. elim v as (λ _. Bool) [ None ↦ false | Some c ↦ barrier_acknowledged c (epoch_of c.stream home.place) ])

  seen-more : (i : ℕ) (a : Accepted) → slice_get h.writes i ≡ Some a → logged_of (record h { connections = h.connections ++ new ∷ [] }) a ≡ logged_of h a
  seen-more i a at = λ j. record (logged_of h a) { linked = not (alone-more i a at j); sent = sent-more i a at j; answered = answered-more i a at j }

  unreleased-more : unreleased (record h { connections = h.connections ++ new ∷ [] }) ≡ unreleased h
  unreleased-more = filter-at (λ a. not (is_released (record h { connections = h.connections ++ new ∷ [] }) a)) (λ a. not (is_released h a)) h.writes
      (λ i a at. ap not (released-same h (record h { connections = h.connections ++ new ∷ [] }) a (confirmed-more i a at) (alone-more i a at)))

-- The end opens.
module _ (sync loss : ℕ) (s : PrimaryState) (h : PrimaryHistory) (left : Leaves s h) (homes : HasHomes h) (shut : (primary_connection h).closed ≡ true) where
  abbrev new : PrimaryConnection
  new = new_primary_connection sync loss h.tuple

  last : primary_connection (step.opened h sync loss) ≡ new_primary_connection sync loss h.tuple
  last = last-more (no_primary_connection h.tuple) (new_primary_connection sync loss h.tuple) h.connections

  none-before : is_established (primary_connection h) ≡ false
  none-before = ap (λ b. not b && (primary_connection h).begun) shut

  none-after : is_established (primary_connection (step.opened h sync loss)) ≡ false
  none-after = ap is_established last

  opened-leaves : Leaves (transition.opened sync loss s) (step.opened h sync loss)
  opened-leaves = record {
    rest = record {
      settings = left.rest.settings;
      tuple = left.rest.tuple;
      peer = left.rest.peer;
      connections = let size = length-append h.connections (new ∷ []) in let was = left.rest.connections in omega arith;
      log = record {
        protocol = left.rest.log.protocol;
        backlog = left.rest.log.backlog;
        accepted = left.rest.log.accepted;
        connection = left.rest.log.connection
            ∙ (ap (λ b. if b then Some (last_index h.connections) else None) none-before
            ∙ sym (ap (λ b. if b then Some (last_index (step.opened h sync loss).connections) else None) none-after));
        writes =
            left.rest.log.writes
            ∙ sym (ap (map (logged_of (step.opened h sync loss))) (unreleased-more h new homes)
            ∙ map-at (logged_of (step.opened h sync loss)) (logged_of h) (unreleased h)
            (λ i a at. let there = pick-filtered (λ x. not (is_released h x)) h.writes i a at in seen-more h new homes there.0 a there.1));
        last_writes = left.rest.log.last_writes;
      };
      entries = record { entries = left.rest.entries.entries; receipts = left.rest.entries.receipts };
      marks = left.rest.marks;
      held = left.rest.held ∙ (ap (λ b. map holding_item (if b then under_way (primary_connection h) else []) ++ map holding_write (open_writes h)) none-before
          ∙ sym (ap (λ b. map holding_item (if b then under_way (primary_connection (step.opened h sync loss)) else []) ++ map holding_write (open_writes h))
          none-after));
      activity = subst (LeavesActivity s.activity h.settings.slots) (sym (unreleased-more h new homes)) left.rest.activity;
      end = subst (EndLeft (transition.opened sync loss s).end) (sym last) (record {
        is_open = refl;
        plain = refl;
        sync = refl;
        loss = refl;
        hello = left.rest.tuple;
        hello_received = refl;
        hello_sent = refl;
        pushed = omega arith;
        unsent = refl;
        resync = refl;
        under_way = refl;
        unasked = λ place item later. (refl, refl, refl);
        unbegun = λ fresh epoch. refl;
      });
      quiet = λ i a at. left.rest.quiet i a at
          ∙ sym (completes-same h (step.opened h sync loss) a (answered-more h new homes i a at) (alone-more h new homes i a at));
    };
    stream = record {
      max_epoch = left.stream.max_epoch;
      on = λ so. absurd (both_ways (is_established (primary_connection (step.opened h sync loss))) none-after so);
      here = λ so. absurd (both_ways (is_established (primary_connection (step.opened h sync loss))) none-after so);
      off = λ none. left.stream.off none-before;
    };
  }

  -- nothing follows
  open-still : step.succeeding what.Nothing (step.opened h sync loss) ≡ (reply.Ok (done_with what.Nothing), step.opened h sync loss)
  open-still =
      still (step.opened h sync loss) opened-leaves.rest.quiet
      (down-on (step.opened h sync loss) none-after) (down-rests (step.opened h sync loss) none-after)
      what.Nothing

  pub opened-agrees : Agrees plainly (Ok tt, transition.opened sync loss s) (step.succeeding what.Nothing (step.opened h sync loss))
  opened-agrees = subst (Agrees plainly (Ok tt, transition.opened sync loss s)) (sym open-still) (record { reply = refl; leaves = opened-leaves })

-- the primary opens its end
pub opens-agree : OpensAgree
opens-agree sync loss out_of_memory s h reached left =
    tested-agrees plainly s h (transition.open_tests sync loss out_of_memory s) (step.open_tests h sync loss out_of_memory)
    (λ _. (Ok tt, transition.opened sync loss s))
    (λ _. step.succeeding what.Nothing (step.opened h sync loss))
    (open-tests-by h sync loss out_of_memory (is_some s.end) (transition.known_tuples s) s.connections (end-open s.end (primary_connection h) left.rest.end)
    known-tuples
    left.rest.connections) left
    (λ none. opened-agrees sync loss s h left (reached-ordered h reached).ordered.1.1.0.0 (may-open h sync loss out_of_memory none).closed)
  where
    known-tuples : transition.known_tuples s ≡ step.known_tuples h
    known-tuples = λ i. elim (left.rest.peer i) as (λ _. List Tuple) [ None ↦ left.rest.tuple i ∷ [] | Some peer ↦ left.rest.tuple i ∷ peer ∷ [] ]
