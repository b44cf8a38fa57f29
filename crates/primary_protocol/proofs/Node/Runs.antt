-- A node's calls as steps: one event more is reached, and some history is had after it.
use Rattle.std.proofs.Common.{ℕ, suc, ◌≡◌, Bool, not, List, [], ◌∷◌, ◌++◌, length, Option, Some, None, refl, sym, ◌∙◌, ap, subst}
use Rattle.std.specs.Prelude.{unwrap_or}
use Rattle.blocks.specs.declared.refusal.Refusal.{Refusal}
use Rattle.blocks.specs.declared.refusal.Refusal.TheVariants.{NothingThere, NothingToDo, NotConnected, ReadFault, UnknownJob}
use Rattle.blocks.specs.declared.outcome.Done.{Done}
use Rattle.blocks.specs.declared.outcome.What.TheVariants as what
use Rattle.blocks.specs.declared.outcome.Reply.{Reply}
use Rattle.blocks.specs.declared.outcome.Reply.TheVariants as reply
use Rattle.model.specs.Refusals.{Test, first_refusal}
use Rattle.model.specs.Stream.{ResyncItem}
use Rattle.model.specs.Primary.{OnDisk, PrimaryHistory, primary_opening, primary_connection, with_primary_connection, local_map, free_block}
use Rattle.model.specs.Marks.{releasing}
use Rattle.model.specs.PrimarySteps as step
use Rattle.model.specs.PrimarySteps.{follows, appending, succeeding}
use Rattle.model.specs.LocalRuns.{PrimaryEvent, Opens, Submits, WritesLocally, FailsLocally, Sends, Takes, Resyncs, FailsResync, Closes, Receipts}
use Rattle.model.specs.LocalRuns.{primary_after, primary_run}
use Rattle.laws.proofs.Primary.Moves.{pushing}
use Rattle.primary_protocol.specs.Node.{NodeState, NodeLeaves, NodeHas, NodeIsHad, NodeSteps, primary_step}
use Rattle.primary_protocol.specs.Steps.{IsReached}
use Rattle.model.specs.Acknowledgements.{ack_in_tests}

-- the history after an event is that of its step
after-step : (event : PrimaryEvent) (h : PrimaryHistory) → primary_after event h ≡ (primary_step event h).1
after-step (Opens sync loss out_of_memory) h = refl
after-step (Submits first contents out_of_memory) h = refl
after-step (WritesLocally number) h = refl
after-step (FailsLocally number offsets) h = refl
after-step (Sends room out_of_memory) h = refl
after-step (Takes frame out_of_memory) h = refl
after-step (Resyncs read out_of_memory) h = refl
after-step (FailsResync out_of_memory) h = refl
after-step Closes h = refl
after-step (Receipts number) h = refl

run-snoc : (event : PrimaryEvent) (events : List PrimaryEvent) (h : PrimaryHistory)
    → primary_run (events ++ event ∷ []) h ≡ (primary_step event (primary_run events h)).1
run-snoc event [] h = after-step event h
run-snoc event (e ∷ events) h = run-snoc event events (primary_after e h)

-- One more event leads to a reached history.
pub reached-step : (event : PrimaryEvent) (h : PrimaryHistory) → IsReached h → IsReached (primary_step event h).1
reached-step event h is = record {
  settings = is.settings;
  disk = is.disk;
  tuple = is.tuple;
  marks = is.marks;
  events = is.events ++ event ∷ [];
  ranges = is.ranges;
  sized = is.sized;
  is = run-snoc event is.events (primary_opening is.settings is.disk is.tuple is.marks) ∙ ap (λ (g : PrimaryHistory). (primary_step event g).1) is.is;
}

-- The call answers what the step answers, and leaves what it leaves.
pub record NodeAgrees (said : Reply) (next : NodeState) (step : Reply × PrimaryHistory) : Type 0 where
  pub reply : said ≡ step.0
  pub leaves : NodeLeaves next step.1

-- A call that agrees with the step on every history that the node has is the step.
pub node-steps : (event : PrimaryEvent) (n : NodeState) (reply : Reply) (next : NodeState)
    → ((h : PrimaryHistory) → NodeHas n h → NodeAgrees reply next (primary_step event h)) → NodeSteps event n reply next
node-steps event n reply next agrees = record {
  replies = λ h has. (agrees h has).reply;
  after = λ h has. record { leaves = (agrees h has).leaves; reached = reached-step event h has.reached };
}

-- Some history is had after a step.
pub node-had : (event : PrimaryEvent) (n : NodeState) (reply : Reply) (next : NodeState) → NodeIsHad n → NodeSteps event n reply next → NodeIsHad next
node-had event n reply next is steps = record { history = (primary_step event is.history).1; has = steps.after is.history is.has }

-- A step that only tests refuse or let pass.
did : (h : PrimaryHistory) (tests : List Test) (done : Unit {0} → Reply × PrimaryHistory) (d : Done) → reply.Ok d ≡ (step.tested h tests done).0
    → step.tested h tests done ≡ done tt
did h tests done d is = go (first_refusal tests) is
  where
    go : (v : Option Refusal) → reply.Ok d ≡ (elim v as (λ _. Reply × PrimaryHistory) [ Some refusal ↦ (reply.Refused refusal, h) | None ↦ done tt ]).0
        → elim v as (λ _. Reply × PrimaryHistory) [ Some refusal ↦ (reply.Refused refusal, h) | None ↦ done tt ] ≡ done tt
    go (Some refusal) is = absurd (cc)
    go None is = refl

did-not : (h : PrimaryHistory) (tests : List Test) (done : Unit {0} → Reply × PrimaryHistory) (e : Refusal) → (reply.Refused e ≡ (done tt).0 → (done tt).1 ≡ h)
    → reply.Refused e ≡ (step.tested h tests done).0 → (step.tested h tests done).1 ≡ h
did-not h tests done e other is = go (first_refusal tests) is
  where
    go : (v : Option Refusal) → reply.Refused e ≡ (elim v as (λ _. Reply × PrimaryHistory) [ Some refusal ↦ (reply.Refused refusal, h) | None ↦ done tt ]).0
        → (elim v as (λ _. Reply × PrimaryHistory) [ Some refusal ↦ (reply.Refused refusal, h) | None ↦ done tt ]).1 ≡ h
    go (Some refusal) is = refl
    go None is = other is

-- a block is copied, where there is a free one
abbrev copies : Option (List ℕ) → PrimaryHistory → Option ℕ → Reply × PrimaryHistory
copies read h v = elim v as (λ _. Reply × PrimaryHistory) [
  | None ↦ (reply.Refused NothingToDo, h)
  | Some block ↦ succeeding (what.Block (record { 0 = block }) (length (primary_connection h).stream))
      (step.copying read block h)
]

-- any event but a frame that is taken
abbrev pub IsStill : PrimaryEvent → Type 0
IsStill (Takes (Some frame) out_of_memory) = ⊥
IsStill event = Unit {0}

-- What refuses such an event changes nothing.
pub refused-same : (event : PrimaryEvent) → IsStill event → (h : PrimaryHistory) (e : Refusal) → reply.Refused e ≡ (primary_step event h).0
    → (primary_step event h).1 ≡ h
refused-same (Opens sync loss out_of_memory) still h e is = did-not h (step.open_tests h sync loss out_of_memory)
    (λ _. succeeding what.Nothing (step.opened h sync loss)) e
    (λ no. absurd (cc)) is
refused-same (Submits first contents out_of_memory) still h e is = did-not h (step.submit_tests h first contents out_of_memory)
    (λ _. succeeding (what.Write (suc (length h.writes))) (step.submitted h first contents)) e (λ no. absurd (cc)) is
refused-same (WritesLocally number) still h e is = did-not h ((not (step.is_unfinished h number), UnknownJob) ∷ [])
    (λ _. succeeding what.Nothing (releasing h (step.with_outcome number OnDisk h))) e (λ no. absurd (cc)) is
refused-same (FailsLocally number offsets) still h e is = did-not h ((not (step.is_unfinished h number), UnknownJob) ∷ [])
    (λ _. succeeding what.Nothing (step.faulted number offsets h)) e (λ no. absurd (cc)) is
refused-same (Sends room out_of_memory) still h e is = did-not h (step.send_tests h room out_of_memory)
    (λ _. succeeding (step.sending h) (with_primary_connection pushing h)) e
    (λ no. absurd (cc)) is
refused-same (Takes (Some frame) out_of_memory) still h e is = absurd still
refused-same (Takes None out_of_memory) still h e is =
    did-not h (ack_in_tests h None out_of_memory) (λ _. (reply.Refused NothingThere, h)) e (λ same. refl) is
refused-same (Resyncs read out_of_memory) still h e is = did-not h (step.resync_tests h out_of_memory) (λ _. copies read h (free_block h)) e (go (free_block h)) is
  where
    go : (v : Option ℕ) → reply.Refused e ≡ (copies read h v).0 → (copies read h v).1 ≡ h
    go None same = refl
    go (Some block) same = absurd (cc)
refused-same (FailsResync out_of_memory) still h e is = did-not h (step.resync_tests h out_of_memory) (λ _. (reply.Refused ReadFault, h)) e (λ same. refl) is
refused-same Closes still h e is = did-not h (((primary_connection h).closed, NotConnected) ∷ [])
    (λ _. let after = follows (step.closing h) in (reply.Closed (length after.completed), after.history)) e (λ no. absurd (cc)) is
refused-same (Receipts number) still h e is = absurd (cc)

-- A call that is refused, and leaves the node, is the step.
pub node-refused : (event : PrimaryEvent) → IsStill event → (n : NodeState) (e : Refusal)
    → ((h : PrimaryHistory) → NodeHas n h → reply.Refused e ≡ (primary_step event h).0) → NodeSteps event n (reply.Refused e) n
node-refused event still n e is = node-steps event n (reply.Refused e) n (λ h has. record {
  reply = is h has;
  leaves = subst (NodeLeaves n) (sym (refused-same event still h e (is h has))) has.leaves;
})

-- What the steps that are done lead to.
pub opens-to : (sync loss : ℕ) (out_of_memory : Bool) (h : PrimaryHistory) (d : Done) → reply.Ok d ≡ (step.open_primary sync loss out_of_memory h).0
    → (step.open_primary sync loss out_of_memory h).1 ≡ (follows (step.opened h sync loss)).history
opens-to sync loss out_of_memory h d is = ap (λ (p : Reply × PrimaryHistory). p.1)
    (did h (step.open_tests h sync loss out_of_memory) (λ _. succeeding what.Nothing (step.opened h sync loss)) d is)

-- the local disk did a write
pub writes-to : (number : ℕ) (h : PrimaryHistory) (d : Done) → reply.Ok d ≡ (step.local_done number h).0
    → (step.local_done number h).1 ≡ (follows (releasing h (step.with_outcome number OnDisk h))).history
writes-to number h d is = ap (λ (p : Reply × PrimaryHistory). p.1)
    (did h ((not (step.is_unfinished h number), UnknownJob) ∷ []) (λ _. succeeding what.Nothing (releasing h (step.with_outcome number OnDisk h))) d is)

-- the local disk failed a write
pub fails-to : (number : ℕ) (offsets : List ℕ) (h : PrimaryHistory) (d : Done) → reply.Ok d ≡ (step.local_fault number offsets h).0
    → (step.local_fault number offsets h).1 ≡ (follows (step.faulted number offsets h)).history
fails-to number offsets h d is = ap (λ (p : Reply × PrimaryHistory). p.1)
    (did h ((not (step.is_unfinished h number), UnknownJob) ∷ []) (λ _. succeeding what.Nothing (step.faulted number offsets h)) d is)

-- a frame was pushed
pub pushes-to : (room out_of_memory : Bool) (h : PrimaryHistory) (d : Done) → reply.Ok d ≡ (step.send room out_of_memory h).0
    → (step.send room out_of_memory h).1 ≡ (follows (with_primary_connection pushing h)).history
pushes-to room out_of_memory h d is = ap (λ (p : Reply × PrimaryHistory). p.1)
    (did h (step.send_tests h room out_of_memory) (λ _. succeeding (step.sending h) (with_primary_connection pushing h)) d is)

-- a write was accepted
pub submits-to : (first : ℕ) (contents : List (List ℕ)) (out_of_memory : Bool) (h : PrimaryHistory) (d : Done)
    → reply.Ok d ≡ (step.submit first contents out_of_memory h).0
    → step.submit first contents out_of_memory h ≡ succeeding (what.Write (suc (length h.writes))) (step.submitted h first contents)
submits-to first contents out_of_memory h d is = did h (step.submit_tests h first contents out_of_memory)
    (λ _. succeeding (what.Write (suc (length h.writes))) (step.submitted h first contents)) d is
