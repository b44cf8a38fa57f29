-- A new secondary, opening and closing.
use Rattle.std.proofs.Common.{ℕ, ◌≡◌, ◌<◌, nat_le, arith, Option, Bool, true, false, not, ◌&&◌, ◌||◌, List, [], ◌∷◌, length, Some, None, Ok, refl, sym, ◌∙◌, ap}
use Rattle.std.proofs.Common.{subst, nat_lt}
use Rattle.std.specs.Prelude.{is_some, is_none}
use Rattle.std.proofs.lemmas.Bool.{lt-leb, lt-ltb, both_ways}
use Rattle.blocks.specs.declared.settings.Settings.{Settings}
use Rattle.blocks.specs.declared.refusal.Refusal.TheVariants.{NotDrained, NotConnected}
use Rattle.blocks.specs.declared.outcome.What.TheVariants as what
use Rattle.blocks.specs.declared.outcome.Reply.TheVariants as reply
use Rattle.model.specs.Refusals.{first_refusal, done_with}
use Rattle.model.specs.Secondary.{SecondaryConnection, SecondaryHistory, secondary_connection, no_secondary_connection, items_taken, pending, is_drained}
use Rattle.model.specs.Secondary.{with_secondary_connection, secondary_map}
use Rattle.model.specs.Secondary.{new_secondary_connection}
use Rattle.model.specs.SecondarySteps as step
use Rattle.laws.proofs.Lists.Elements.{append-one}
use Rattle.laws.proofs.Lists.Last.{last-more}
use Rattle.laws.proofs.Secondary.Moves.{closed_end}
use Rattle.secondary_protocol.specs.Core.{nothing_taken, SecondaryState, opened, open_tests}
use Rattle.secondary_protocol.specs.Leaves.{Leaves, LeavesLast, FailedLeft, pending_in}
use Rattle.secondary_protocol.specs.Steps.{FreshIsOpening, OpensAgree, ClosesAgree, plainly}
use Rattle.secondary_protocol.proofs.Intakes.{intake-none}
use Rattle.secondary_protocol.proofs.Tested.{tested-agrees, passed, end-closed, end-open, secondary-connection-with, open-some, length-map, some-or-none}

-- a new secondary has the opening
pub fresh-is : FreshIsOpening
fresh-is settings disk tuple = record {
  settings = refl;
  tuple = refl;
  consistent = refl;
  last = record {
    number = refl;
    intake = intake-none settings.blocks;
    named = λ place offset inside. absurd (cc);
    pending = refl;
    applied = refl;
    failed = refl;
    end = refl;
  };
}

-- the tests of an opening are the same
open-same : (s : SecondaryState) (h : SecondaryHistory) → Leaves s h → open_tests s ≡ step.open_secondary_tests h
open-same s h left =
    let count : length s.pending ≡ length (pending (secondary_connection h)) = ap length left.last.pending
    ∙ length-map (pending_in (items_taken (secondary_connection h))) (pending (secondary_connection h)) in
    let waits : nat_lt 0 (length s.pending) ≡ not (is_drained h) = ap (nat_lt 0) count ∙ some-or-none (length (pending (secondary_connection h))) in
    ap (λ b. (b, NotDrained) ∷ []) (ap (λ b. b || nat_lt 0 (length s.pending)) (end-open s.end (secondary_connection h) left.last.end)
    ∙ (ap (λ b. not (secondary_connection h).closed || b) waits ∙ either (secondary_connection h).closed (is_drained h)))
  where
    either : (a b : Bool) → (not a || not b) ≡ not (a && b)
    either true true = refl
    either true false = refl
    either false b = refl

-- the secondary opens its end
pub opens-agree : OpensAgree
opens-agree unseen s h left = tested-agrees plainly s h (open_tests s) (step.open_secondary_tests h)
    (λ _. (Ok tt, opened (step.next_number unseen h) s)) (λ _. step.succeeding_secondary what.Nothing (step.opened_secondary unseen h))
    (open-same s h left) left (λ none. record {
      reply = refl;
      leaves = record {
        settings = left.settings;
        tuple = left.tuple;
        consistent = left.consistent;
        last = subst (LeavesLast h.settings.blocks (opened (step.next_number unseen h) s)) (sym ends) (record {
          number = refl;
          intake = ap (λ (x : Settings). nothing_taken x.blocks) left.settings ∙ intake-none h.settings.blocks;
          named = λ place offset inside. absurd (cc);
          pending = empty none;
          applied = refl;
          failed = refl;
          end = record {
            is_open = refl;
            plain = refl;
            hello = left.tuple;
            hello_received = refl;
            hello_sent = refl;
            owed = omega arith;
            due = refl;
            answered = λ epoch from. sym (none-below epoch from);
            within = omega arith;
            sizes = refl;
          };
        });
      };
    })
  where
    new : SecondaryConnection
    new = new_secondary_connection (step.next_number unseen h) (secondary_map h) h.tuple

    ends : secondary_connection (with_secondary_connection step.answering (step.opened_secondary unseen h)) ≡ new
    ends = secondary-connection-with step.answering (step.opened_secondary unseen h) (append-one h.connections new)
        ∙ ap step.answering (last-more (no_secondary_connection (step.opened_secondary unseen h)) new h.connections)

    none-below : (epoch : ℕ) → 0 < epoch → nat_le epoch 0 ≡ false
    none-below epoch from = lt-leb epoch 0 from

    empty : first_refusal (step.open_secondary_tests h) ≡ None → s.pending ≡ []
    empty none = nothing s.pending (both (is_some s.end) (nat_lt 0 (length s.pending))
        (passed (is_some s.end || nat_lt 0 (length s.pending)) NotDrained [] (ap first_refusal (open-same s h left) ∙ none)).0)
      where
        both : (a b : Bool) → (a || b) ≡ false → b ≡ false
        both true b is = absurd (cc)
        both false b is = is

        nothing : {X : Type 0} (xs : List X) → nat_lt 0 (length xs) ≡ false → xs ≡ []
        nothing [] is = refl
        nothing (x ∷ xs) is = absurd (both_ways (nat_lt 0 (length (x ∷ xs))) is (lt-ltb 0 (length (x ∷ xs)) (omega arith)))

-- what failed stays so at a closed end
pub shut : (v : Option ℕ) (c : SecondaryConnection) → FailedLeft v c → FailedLeft v (closed_end c)
shut None c left = left
shut (Some epoch) c left = record {
  place = left.place;
  item = left.item;
  at = left.at;
  has_blocks = left.has_blocks;
  gone = left.gone;
  epoch_is = left.epoch_is;
  later = left.later;
  waiting = left.waiting;
  closed = refl;
}

-- it closes its end
pub closes-agree : ClosesAgree
closes-agree s h left = tested-agrees plainly s h ((is_none s.end, NotConnected) ∷ []) (((secondary_connection h).closed, NotConnected) ∷ [])
    (λ _. (Ok tt, record s { end = None })) (λ _. (reply.Ok (done_with what.Nothing), with_secondary_connection closed_end h))
    (ap (λ b. (b, NotConnected) ∷ []) (end-closed s.end (secondary_connection h) left.last.end)) left (λ none.
    let is_established = (passed (secondary_connection h).closed NotConnected [] none).0 in
    record {
      reply = refl;
      leaves = record {
        settings = left.settings;
        tuple = left.tuple;
        consistent = left.consistent;
        last = subst (LeavesLast h.settings.blocks (record s { end = None })) (sym (secondary-connection-with closed_end h (open-some h is_established)))
            (record {
              number = left.last.number;
              intake = left.last.intake;
              named = left.last.named;
              pending = left.last.pending;
              applied = left.last.applied;
              failed = shut s.failed (secondary_connection h) left.last.failed;
              end = refl;
            });
      };
    })
