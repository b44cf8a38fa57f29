-- What a locked node's call refuses is what its step of the model refuses.
use Rattle.std.proofs.Common.{ℕ, ◌≡◌, inl, inr, Bool, true, not, Option, Some, None, Result, Ok, Err, refl, sym, ◌∙◌, ap}
use Rattle.std.specs.Prelude.{IfErr, ok_or}
use Rattle.blocks.specs.declared.refusal.Refusal.{Refusal}
use Rattle.blocks.specs.declared.refusal.Refusal.TheVariants.{LinkFull, NoMemory, NotConnected, NothingThere}
use Rattle.blocks.specs.declared.outcome.Done.{Done}
use Rattle.blocks.specs.declared.outcome.Reply.{Reply}
use Rattle.blocks.specs.declared.outcome.Reply.TheVariants as reply
use Rattle.blocks.specs.declared.outcome.What.TheVariants as what
use Rattle.blocks.specs.declared.settings.Settings.{Settings}
use Rattle.blocks.specs.declared.tuple.Tuple.{Tuple}
use Rattle.model.specs.CallRefusals.{ack_out_refuses, local_open_refuses, send_refuses, resync_next_refuses, take_completed_refuses}
use Rattle.model.specs.Contents.{BlockMap}
use Rattle.model.specs.LocalRuns.{OpensToo, Opens, PrimaryEvent, SecondaryEvent}
use Rattle.model.specs.Primary.{Completion, PrimaryHistory, next_local, primary_opening}
use Rattle.model.specs.PrimarySteps as step
use Rattle.model.specs.Settlement.{Receipt, receipt_of}
use Rattle.std.specs.Result.{result_map_both}
use Rattle.model.specs.Secondary.{SecondaryHistory, next_pending, secondary_opening}
use Rattle.model.specs.SecondarySteps as step_too
use Rattle.model.specs.Theorems.{Opening}
use Rattle.laws.proofs.Rules.Memory.{first-open-refused}
use Rattle.laws.proofs.Pair.CallRefusals.{applies-next, done-next, failed-next, fails-next, receipt-so, resync-fault-so, resync-so}
use Rattle.primary_protocol.specs.Node as primary
use Rattle.primary_protocol.specs.Steps as primary_steps
use Rattle.secondary_protocol.specs.Node as secondary
use Rattle.secondary_protocol.specs.Steps as secondary_steps
use Rattle.primary.proofs.Answers as from_primary
use Rattle.primary.specs.Calls.{CopiesOne, WritesOne}
use Rattle.primary.specs.State as primary_state
use Rattle.primary.specs.State.{PrimaryView}
use Rattle.secondary.proofs.Answers as from_secondary
use Rattle.secondary.specs.Calls.{AppliesOne}
use Rattle.secondary.specs.State as secondary_state
use Rattle.secondary.specs.State.{SecondaryView}
use Rattle.session_nodes.specs.Primaries.{PrimaryIsHad}
use Rattle.session_nodes.specs.Secondaries.{SecondaryIsHad}

-- A primary.

-- a call that is an event's step
pub primary-refused : {R : Type 0} (P : Refusal → Type 0) (as_reply : R → Reply) (opening : Option Opening) (event : PrimaryEvent) (v w : PrimaryView)
    (result : Result R Refusal) → PrimaryIsHad opening v
    → primary.NodeSteps event (primary_state.node v) (primary_steps.replied as_reply result) (primary_state.node w)
    → ((h : PrimaryHistory) (e : Refusal) → (primary.primary_step event h).0 ≡ reply.Refused e → P e) → IfErr result P
primary-refused P as_reply opening event v w result had steps so =
    from_primary.if-refused P as_reply result (primary.primary_step event had.history).0 (steps.replies had.history had.has.has) (so had.history)

-- the next write is refused by no test
pub write-refused : (P : Refusal → Type 0) (opening : Option Opening) (number : ℕ) (v w : PrimaryView) (result : Result Done Refusal) → PrimaryIsHad opening v
    → ((h : PrimaryHistory) → primary.NodeHas (primary_state.node v) h → next_local h ≡ Some number) → WritesOne number result v w → IfErr result P
write-refused P opening number v w result had next (inl (faults, steps)) =
    from_primary.if-refused P reply.Ok result _ (steps.replies had.history had.has.has)
    (λ e is. absurd (done-next number had.history e (next had.history had.has.has) is))
write-refused P opening number v w result had next (inr (faults, (offsets, steps))) =
    from_primary.if-refused P reply.Ok result _ (steps.replies had.history had.has.has)
    (λ e is. absurd (failed-next number offsets had.history e (next had.history had.has.has) is))

-- a receipt
pub receipt-refused : (opening : Option Opening) (number : ℕ) (v w : PrimaryView) (result : Result Receipt Refusal) → PrimaryIsHad opening v
    → primary.IsStep (primary.take_receipt number) (primary_state.node v) result (primary_state.node w) → IfErr result (λ e. take_completed_refuses e ≡ true)
receipt-refused opening number v w result had steps =
    go (step.take_completed number had.history).0 (receipt-so number had.history) result (steps.replies had.history had.has.has)
  where
    go : (r : Result Completion Refusal) → ((e : Refusal) → r ≡ Err e → take_completed_refuses e ≡ true) → (given : Result Receipt Refusal)
        → given ≡ result_map_both receipt_of (λ e. e) r → IfErr given (λ e. take_completed_refuses e ≡ true)
    go r so (Ok receipt) is = tt
    go (Ok entry) so (Err e) is = absurd (cc)
    go (Err first) so (Err e) is = let one : e ≡ first = cc in ap take_completed_refuses one ∙ so first refl

-- a resync's block is read, or not
pub copy-refused : (opening : Option Opening) (v w : PrimaryView) (result : Result Done Refusal) → PrimaryIsHad opening v → CopiesOne result v w
    → IfErr result (λ e. resync_next_refuses e ≡ true)
copy-refused opening v w result had (inl (faults, (read, given, steps))) =
    from_primary.if-refused (λ e. resync_next_refuses e ≡ true) reply.Ok result _ (steps.replies had.history had.has.has) (resync-so read _ had.history)
copy-refused opening v w result had (inr (faults, steps)) =
    from_primary.if-refused (λ e. resync_next_refuses e ≡ true) reply.Ok result _ (steps.replies had.history had.has.has) (resync-fault-so _ had.history)

-- the first opening
pub first-refused : (sync loss : ℕ) (out_of_memory : Bool) (settings : Settings) (disk : BlockMap) (tuple : Tuple) (marks : ℕ → Bool) (v w : PrimaryView)
    (result : Result (Unit {0}) Refusal) → primary.NodeHas (primary_state.node v) (primary_opening settings disk tuple marks)
    → primary.NodeSteps (Opens sync loss out_of_memory) (primary_state.node v) (primary_steps.replied primary_steps.plainly result) (primary_state.node w)
    → IfErr result (λ e. local_open_refuses e ≡ true)
first-refused sync loss out_of_memory settings disk tuple marks v w result has steps =
    from_primary.if-refused (λ e. local_open_refuses e ≡ true) primary_steps.plainly result _
    (steps.replies (primary_opening settings disk tuple marks) has) (first-open-refused sync loss out_of_memory settings disk tuple marks)

-- A secondary.

pub secondary-refused : {R : Type 0} (P : Refusal → Type 0) (as_done : R → Done) (opening : Option Opening) (event : SecondaryEvent) (v w : SecondaryView)
    (result : Result R Refusal) → SecondaryIsHad opening v
    → secondary.NodeSteps event (secondary_state.node v) (secondary_steps.replied as_done result) (secondary_state.node w)
    → ((h : SecondaryHistory) (e : Refusal) → (secondary.secondary_step event h).0 ≡ reply.Refused e → P e) → IfErr result P
secondary-refused P as_done opening event v w result had steps so =
    from_secondary.if-refused P as_done result (secondary.secondary_step event had.history).0 (steps.replies had.history had.has.has) (so had.history)

-- the next item is refused by no test
pub apply-refused : (P : Refusal → Type 0) (opening : Option Opening) (place : ℕ) (v w : SecondaryView) (result : Result Done Refusal) → SecondaryIsHad opening v
    → ((h : SecondaryHistory) → secondary.NodeHas (secondary_state.node v) h → next_pending h ≡ Some place) → AppliesOne place result v w → IfErr result P
apply-refused P opening place v w result had next (inl (faults, steps)) =
    from_secondary.if-refused P (λ done. done) result _ (steps.replies had.history had.has.has)
    (λ e is. absurd (applies-next place had.history e (next had.history had.has.has) is))
apply-refused P opening place v w result had next (inr (faults, (offsets, steps))) =
    from_secondary.if-refused P (λ done. done) result _ (steps.replies had.history had.has.has)
    (λ e is. absurd (fails-next place offsets had.history e (next had.history had.has.has) is))

-- what there is to do next, by what the node answers
pub next-some : (h : SecondaryHistory) (place : ℕ) → Ok place ≡ ok_or (next_pending h) NothingThere → next_pending h ≡ Some place
next-some h place = go (next_pending h)
  where
    go : (v : Option ℕ) → Ok place ≡ ok_or v NothingThere → v ≡ Some place
    go None is = absurd (cc)
    go (Some other) is = let one : place ≡ other = cc in ap (λ n. Some n) (sym one)

pub next-none : (h : SecondaryHistory) (e : Refusal) → Err e ≡ ok_or (next_pending h) NothingThere → e ≡ NothingThere
next-none h e = go (next_pending h)
  where
    go : (v : Option ℕ) → Err e ≡ ok_or v NothingThere → e ≡ NothingThere
    go None is = cc
    go (Some other) is = absurd (cc)

-- an acknowledgement wants no memory
pub answer-refused : (result : Result Done Refusal) → IfErr result (λ e. send_refuses e ≡ true) → IfErr result (λ e. e ≡ NoMemory → ⊥)
    → IfErr result (λ e. ack_out_refuses e ≡ true)
answer-refused (Ok done) so other = tt
answer-refused (Err e) so other = by e so other
  where
    by : (e : Refusal) → send_refuses e ≡ true → (e ≡ NoMemory → ⊥) → ack_out_refuses e ≡ true
    by LinkFull so other = refl
    by NotConnected so other = refl
    by NothingThere so other = refl
    by NoMemory so other = absurd (other refl)
    by e so other = absurd (cc)

-- the first opening is refused for nothing
pub first-refused-too : (P : Refusal → Type 0) (settings : Settings) (disk : BlockMap) (tuple : Tuple) (v w : SecondaryView) (result : Result (Unit {0}) Refusal)
    → secondary.NodeHas (secondary_state.node v) (secondary_opening settings disk tuple)
    → secondary.NodeSteps (OpensToo 0) (secondary_state.node v) (secondary_steps.replied secondary_steps.plainly result) (secondary_state.node w) → IfErr result P
first-refused-too P settings disk tuple v w result has steps =
    from_secondary.if-refused P secondary_steps.plainly result _ (steps.replies (secondary_opening settings disk tuple) has) (λ e is. absurd (cc))
