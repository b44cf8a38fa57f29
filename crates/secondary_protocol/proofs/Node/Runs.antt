-- A node's calls as steps: one event more is reached, and some history is had after it.
use Rattle.std.proofs.Common.{ℕ, ◌≡◌, Bool, List, [], ◌∷◌, ◌++◌, Option, Some, None, refl, sym, ◌∙◌, ap, subst}
use Rattle.blocks.specs.declared.refusal.Refusal.{Refusal}
use Rattle.blocks.specs.declared.refusal.Refusal.TheVariants.{NotConnected, NothingThere}
use Rattle.blocks.specs.declared.outcome.Done.{Done}
use Rattle.blocks.specs.declared.outcome.What.TheVariants as what
use Rattle.blocks.specs.declared.outcome.Reply.{Reply}
use Rattle.blocks.specs.declared.outcome.Reply.TheVariants as reply
use Rattle.model.specs.Refusals.{Test, first_refusal, done_with}
use Rattle.model.specs.Secondary.{SecondaryHistory, secondary_opening, secondary_connection, with_secondary_connection}
use Rattle.model.specs.SecondarySteps.{tested_secondary}
use Rattle.model.specs.SecondarySteps as step
use Rattle.model.specs.LocalRuns.{SecondaryEvent, OpensToo, Receives, Applies, FailsToApply, Acknowledges, ClosesToo, secondary_after, secondary_run}
use Rattle.laws.proofs.Secondary.Moves.{pushed_one, closed_end}
use Rattle.secondary_protocol.specs.Leaves.{Leaves}
use Rattle.secondary_protocol.specs.Node.{NodeState, NodeLeaves, NodeIsHad, NodeSteps, IsReached, secondary_step}

-- the history after an event is that of its step
after-step : (event : SecondaryEvent) (h : SecondaryHistory) → secondary_after event h ≡ (secondary_step event h).1
after-step (OpensToo unseen) h = refl
after-step (Receives frame out_of_memory) h = refl
after-step (Applies place) h = refl
after-step (FailsToApply place offsets) h = refl
after-step (Acknowledges room out_of_memory) h = refl
after-step ClosesToo h = refl

run-snoc : (event : SecondaryEvent) (events : List SecondaryEvent) (h : SecondaryHistory)
    → secondary_run (events ++ event ∷ []) h ≡ (secondary_step event (secondary_run events h)).1
run-snoc event [] h = after-step event h
run-snoc event (e ∷ events) h = run-snoc event events (secondary_after e h)

-- One more event leads to a reached history.
pub reached-step : (event : SecondaryEvent) (h : SecondaryHistory) → IsReached h → IsReached (secondary_step event h).1
reached-step event h is = record {
  settings = is.settings;
  in_range = is.in_range;
  disk = is.disk;
  sized = is.sized;
  tuple = is.tuple;
  events = is.events ++ event ∷ [];
  reached = ap (λ (g : SecondaryHistory). (secondary_step event g).1) is.reached
      ∙ sym (run-snoc event is.events (secondary_opening is.settings is.disk is.tuple));
}

-- The call answers what the step answers, and leaves what it leaves.
pub record NodeAgrees (said : Reply) (next : NodeState) (step : Reply × SecondaryHistory) : Type 0 where
  pub reply : said ≡ step.0
  pub leaves : NodeLeaves next step.1

-- A call that agrees with the step on every history is the step.
pub node-steps : (event : SecondaryEvent) (n : NodeState) (reply : Reply) (next : NodeState)
    → ((h : SecondaryHistory) → NodeLeaves n h → NodeAgrees reply next (secondary_step event h)) → NodeSteps event n reply next
node-steps event n reply next agrees = record {
  replies = λ h has. (agrees h has.leaves).reply;
  after = λ h has. record { leaves = (agrees h has.leaves).leaves; reached = reached-step event h has.reached };
}

-- Some history is had after a step.
pub node-had : (event : SecondaryEvent) (n : NodeState) (reply : Reply) (next : NodeState) → NodeIsHad n → NodeSteps event n reply next → NodeIsHad next
node-had event n reply next is steps = record { history = (secondary_step event is.history).1; has = steps.after is.history is.has }

-- A step that only tests refuse or let pass.
did : (h : SecondaryHistory) (tests : List Test) (done : Unit {0} → Reply × SecondaryHistory) (d : Done) → reply.Ok d ≡ (tested_secondary h tests done).0
    → tested_secondary h tests done ≡ done tt
did h tests done d is = go (first_refusal tests) is
  where
    go : (v : Option Refusal) → reply.Ok d ≡ (elim v as (λ _. Reply × SecondaryHistory) [ Some refusal ↦ (reply.Refused refusal, h) | None ↦ done tt ]).0
        → elim v as (λ _. Reply × SecondaryHistory) [ Some refusal ↦ (reply.Refused refusal, h) | None ↦ done tt ] ≡ done tt
    go (Some refusal) is = absurd (cc)
    go None is = refl

did-not : (h : SecondaryHistory) (tests : List Test) (done : Unit {0} → Reply × SecondaryHistory) (e : Refusal)
    → (reply.Refused e ≡ (done tt).0 → (done tt).1 ≡ h) → reply.Refused e ≡ (tested_secondary h tests done).0 → (tested_secondary h tests done).1 ≡ h
did-not h tests done e other is = go (first_refusal tests) is
  where
    go : (v : Option Refusal) → reply.Refused e ≡ (elim v as (λ _. Reply × SecondaryHistory) [ Some refusal ↦ (reply.Refused refusal, h) | None ↦ done tt ]).0
        → (elim v as (λ _. Reply × SecondaryHistory) [ Some refusal ↦ (reply.Refused refusal, h) | None ↦ done tt ]).1 ≡ h
    go (Some refusal) is = refl
    go None is = other is

-- any event but a frame that is taken
abbrev pub IsStill : SecondaryEvent → Type 0
IsStill (Receives (Some frame) out_of_memory) = ⊥
IsStill event = Unit {0}

-- What refuses such an event changes nothing.
pub refused-same : (event : SecondaryEvent) → IsStill event → (h : SecondaryHistory) (e : Refusal) → reply.Refused e ≡ (secondary_step event h).0
    → (secondary_step event h).1 ≡ h
refused-same (OpensToo unseen) still h e is = did-not h (step.open_secondary_tests h)
    (λ _. step.succeeding_secondary what.Nothing (step.opened_secondary unseen h)) e (λ no. absurd (cc)) is
refused-same (Receives (Some frame) out_of_memory) still h e is = absurd still
refused-same (Receives None out_of_memory) still h e is =
    did-not h (step.receive_tests h None out_of_memory) (λ _. (reply.Refused NothingThere, h)) e (λ same. refl) is
refused-same (Applies place) still h e is =
    did-not h (step.peer_tests h place) (λ _. step.succeeding_secondary what.Nothing (with_secondary_connection (step.applying h.settings.protocol place) h)) e
    (λ no. absurd (cc)) is
refused-same (FailsToApply place offsets) still h e is =
    did-not h (step.peer_tests h place) (λ _. (reply.Ok (done_with what.Nothing), with_secondary_connection (step.failing place offsets) h)) e
    (λ no. absurd (cc)) is
refused-same (Acknowledges room out_of_memory) still h e is = did-not h (step.ack_out_tests h room out_of_memory)
    (λ _. (reply.Ok (done_with (step.answering_with h)), with_secondary_connection pushed_one h)) e (λ no. absurd (cc)) is
refused-same ClosesToo still h e is = did-not h (((secondary_connection h).closed, NotConnected) ∷ [])
    (λ _. (reply.Ok (done_with what.Nothing), with_secondary_connection closed_end h)) e
    (λ no. absurd (cc)) is

-- A call that is refused, and leaves the node, is the step.
pub node-refused : (event : SecondaryEvent) → IsStill event → (n : NodeState) (e : Refusal)
    → ((h : SecondaryHistory) → Leaves n.core h → reply.Refused e ≡ (secondary_step event h).0) → NodeSteps event n (reply.Refused e) n
node-refused event still n e is = node-steps event n (reply.Refused e) n (λ h leaves. record {
  reply = is h leaves.core;
  leaves = subst (NodeLeaves n) (sym (refused-same event still h e (is h leaves.core))) leaves;
})

-- What the steps that are done lead to.
pub opens-to : (unseen : ℕ) (h : SecondaryHistory) (d : Done) → reply.Ok d ≡ (step.open_secondary unseen h).0
    → (step.open_secondary unseen h).1 ≡ with_secondary_connection step.answering (step.opened_secondary unseen h)
opens-to unseen h d is = ap (λ (p : Reply × SecondaryHistory). p.1)
    (did h (step.open_secondary_tests h) (λ _. step.succeeding_secondary what.Nothing (step.opened_secondary unseen h)) d is)

pub applies-to : (place : ℕ) (h : SecondaryHistory) (d : Done) → reply.Ok d ≡ (step.peer place h).0
    → (step.peer place h).1 ≡ with_secondary_connection step.answering (with_secondary_connection (step.applying h.settings.protocol place) h)
applies-to place h d is = ap (λ (p : Reply × SecondaryHistory). p.1)
    (did h (step.peer_tests h place) (λ _. step.succeeding_secondary what.Nothing (with_secondary_connection (step.applying h.settings.protocol place) h)) d is)

pub fails-to : (place : ℕ) (offsets : List ℕ) (h : SecondaryHistory) (d : Done) → reply.Ok d ≡ (step.peer_fault place offsets h).0
    → (step.peer_fault place offsets h).1 ≡ with_secondary_connection (step.failing place offsets) h
fails-to place offsets h d is = ap (λ (p : Reply × SecondaryHistory). p.1)
    (did h (step.peer_tests h place) (λ _. (reply.Ok (done_with what.Nothing), with_secondary_connection (step.failing place offsets) h)) d is)

pub pushes-to : (room out_of_memory : Bool) (h : SecondaryHistory) (d : Done) → reply.Ok d ≡ (step.ack_out room out_of_memory h).0
    → (step.ack_out room out_of_memory h).1 ≡ with_secondary_connection pushed_one h
pushes-to room out_of_memory h d is = ap (λ (p : Reply × SecondaryHistory). p.1)
    (did h (step.ack_out_tests h room out_of_memory) (λ _. (reply.Ok (done_with (step.answering_with h)), with_secondary_connection pushed_one h)) d is)

pub closes-to : (h : SecondaryHistory) (d : Done) → reply.Ok d ≡ (step.close_secondary h).0
    → (step.close_secondary h).1 ≡ with_secondary_connection closed_end h
closes-to h d is = ap (λ (p : Reply × SecondaryHistory). p.1)
    (did h (((secondary_connection h).closed, NotConnected) ∷ []) (λ _. (reply.Ok (done_with what.Nothing), with_secondary_connection closed_end h)) d is)
