-- A node's calls that have the disk do a write are steps.
use Rattle.std.proofs.Common.{ℕ, ◌≡◌, ◌+◌, ◌<◌, ◌≤◌, Bool, true, false, not, List, [], ◌∷◌, length, take, Option, Some, None, Result, slice_get, refl, sym, ◌∙◌}
use Rattle.std.proofs.Common.{ap, subst}
use Rattle.std.specs.Option.{option_map}
use Rattle.std.proofs.lemmas.Bool.{lt-ltb, le-ltb}
use Rattle.blocks.specs.Contents.{overwritten, IsTorn}
use Rattle.blocks.specs.Ranges.{below}
use Rattle.blocks.specs.declared.refusal.Refusal.{Refusal}
use Rattle.blocks.specs.declared.refusal.Refusal.TheVariants.{BadRange, UnknownJob}
use Rattle.blocks.specs.declared.outcome.Done.{Done}
use Rattle.blocks.specs.declared.outcome.Reply.{Reply}
use Rattle.blocks.specs.declared.outcome.Reply.TheVariants as reply
use Rattle.blocks.specs.declared.outcome.What.TheVariants as what
use Rattle.model.specs.Marks.{marking, releasing}
use Rattle.model.specs.Pair.{keeps_too_many, local_fault_kept}
use Rattle.model.specs.Primary.{Accepted, Failed, OnDisk, PrimaryHistory, local_map}
use Rattle.model.specs.PrimarySteps as step
use Rattle.model.specs.PrimarySteps.{follows}
use Rattle.model.specs.Refusals.{first_refusal}
use Rattle.model.specs.Stream.{within}
use Rattle.model.specs.LocalRuns.{WritesLocally, FailsLocally}
use Rattle.transferlog.specs.Ring.{write_at}
use Rattle.transferlog.specs.Writes as log
use Rattle.transferlog.specs.Writes.{LogWrite}
use Rattle.laws.proofs.Releases.InOrder.{IsInOrder}
use Rattle.primary_protocol.specs.Core.{PrimaryState}
use Rattle.primary_protocol.specs.Transitions as transition
use Rattle.primary_protocol.specs.Node.{IsStep, NodeState, NodeHas, NodeIsHad, NodeSteps}
use Rattle.primary_protocol.specs.Steps.{Agrees, replied}
use Rattle.primary_protocol.proofs.Common.Reached.{reached-ordered}
use Rattle.primary_protocol.proofs.LocalDisk.Faults.{faults-agree}
use Rattle.primary_protocol.proofs.LocalDisk.Writes.{unfinished-same, writes-agree}
use Rattle.primary_protocol.proofs.Node.Disk.{disk-kept, disk-torn, new_offsets}
use Rattle.primary_protocol.proofs.Node.Disks.{Comes, KeepsNode, accepted-is, after-written, comes-kept, comes-steps, homes, inside, same-write, the}
use Rattle.primary_protocol.proofs.Node.Disks.{unfinished}
use Rattle.primary_protocol.proofs.Node.Keeps.{Keeps, fails-keeps, writes-keeps, written}
use Rattle.primary_protocol.proofs.Node.Runs.{node-refused}

-- The disk has not that write to do.
module _ (number : ℕ) (n : NodeState) (none : transition.is_unfinished number n.core ≡ false) where
  unknown-there : (h : PrimaryHistory) → NodeHas n h → step.is_unfinished h number ≡ false
  unknown-there h has = sym (unfinished-same n.core h number has.leaves.core (reached-ordered h has.reached).ordered.1.1.0.0) ∙ none

  pub node-unknown : NodeSteps (WritesLocally number) n (reply.Refused UnknownJob) n
  node-unknown = node-refused (WritesLocally number) tt n UnknownJob (λ h has.
      sym (ap (λ b. (step.tested h ((not b, UnknownJob) ∷ []) (λ _. step.succeeding what.Nothing (releasing h (step.with_outcome number OnDisk h)))).0)
      (unknown-there h has)))

-- what a fault that keeps so many blocks comes to, by whether the write is unfinished and how many blocks it has
abbrev kept_by : ℕ → ℕ → PrimaryHistory → Bool → Option ℕ → Reply × PrimaryHistory
kept_by number kept h unfinished count = elim (first_refusal ((not unfinished, UnknownJob) ∷ (keeps_too_many kept count, BadRange) ∷ [])) as
    (λ _. Reply × PrimaryHistory) [
      | Some refusal ↦ (reply.Refused refusal, h)
      | None ↦ step.local_fault number (below kept) h
    ]

-- a step that is refused, and leaves the history
stays-step : (step : PrimaryHistory → Reply × PrimaryHistory) (n : NodeState) (e : Refusal)
    → ((h : PrimaryHistory) → NodeHas n h → step h ≡ (reply.Refused e, h)) → IsStep step n (reply.Refused e) n
stays-step step n e is = record {
  replies = λ h has. sym (ap (λ (p : Reply × PrimaryHistory). p.0) (is h has));
  after = λ h has. subst (NodeHas n) (sym (ap (λ (p : Reply × PrimaryHistory). p.1) (is h has))) has;
}

pub fault-unknown : (number kept : ℕ) (n : NodeState) → transition.is_unfinished number n.core ≡ false
    → IsStep (local_fault_kept number kept) n (reply.Refused UnknownJob) n
fault-unknown number kept n none = stays-step (local_fault_kept number kept) n UnknownJob (λ h has.
    ap (λ b. kept_by number kept h b (option_map (λ (a : Accepted). length a.write.contents) (step.accepted_at h number))) (unknown-there number n none h has))

module _ (number : ℕ) (n : NodeState) (w : LogWrite) (found : write_at number n.core.log.writes ≡ Some w) (waits : log.is_waiting w ≡ true) where
  -- how many blocks the history's write has
  count-is : (h : PrimaryHistory) → NodeHas n h → option_map (λ (a : Accepted). length a.write.contents) (step.accepted_at h number) ≡ Some w.count
  count-is h has = ap (option_map (λ (a : Accepted). length a.write.contents)) (accepted-is number n w found waits h has)
      ∙ ap (λ (x : LogWrite). Some x.count) (sym (same-write number n w found waits h has))

  -- a fault that keeps more blocks than the write has
  pub fault-too-many : (kept : ℕ) → w.count < kept → IsStep (local_fault_kept number kept) n (reply.Refused BadRange) n
  fault-too-many kept more = stays-step (local_fault_kept number kept) n BadRange (λ h has.
      ap (λ b. kept_by number kept h b (option_map (λ (a : Accepted). length a.write.contents) (step.accepted_at h number)))
      (unfinished number n w found waits h has)
      ∙ (ap (kept_by number kept h true) (count-is h has)
      ∙ ap (λ b. elim (first_refusal ((false, UnknownJob) ∷ (b, BadRange) ∷ [])) as
      (λ _. Reply × PrimaryHistory) [ Some refusal ↦ (reply.Refused refusal, h) | None ↦ step.local_fault number (below kept) h ])
      (lt-ltb w.count kept more)))

  -- one that keeps no more is the write's fault
  pub fault-kept : (kept : ℕ) (said : Reply) (next : NodeState) → kept ≤ w.count → NodeSteps (FailsLocally number (below kept)) n said next
      → IsStep (local_fault_kept number kept) n said next
  fault-kept kept said next few steps = record {
    replies = λ h has. steps.replies h has ∙ sym (ap (λ (p : Reply × PrimaryHistory). p.0) (same h has));
    after = λ h has. subst (NodeHas next) (sym (ap (λ (p : Reply × PrimaryHistory). p.1) (same h has))) (steps.after h has);
  }
    where
      same : (h : PrimaryHistory) → NodeHas n h → local_fault_kept number kept h ≡ step.local_fault number (below kept) h
      same h has =
          ap (λ b. kept_by number kept h b (option_map (λ (a : Accepted). length a.write.contents) (step.accepted_at h number)))
          (unfinished number n w found waits h has)
          ∙ (ap (kept_by number kept h true) (count-is h has)
          ∙ ap (λ b. elim (first_refusal ((false, UnknownJob) ∷ (b, BadRange) ∷ [])) as
          (λ _. Reply × PrimaryHistory) [ Some refusal ↦ (reply.Refused refusal, h) | None ↦ step.local_fault number (below kept) h ])
          (le-ltb w.count kept few))

  -- the write lies on the disk
  pub write-inside : NodeIsHad n → w.first + w.count ≤ length n.disk
  write-inside had = subst (λ (x : LogWrite). x.first + x.count ≤ length n.disk) (sym (same-write number n w found waits had.history had.has))
      (inside number n w found waits had.history had.has)

  wrote-come : (result : Result Done Refusal) (core : PrimaryState) → (result, core) ≡ transition.local_done number n.core → (h : PrimaryHistory) → NodeHas n h
      → Comes (WritesLocally number) n (replied reply.Ok result) core (overwritten n.disk w.first w.blocks) n.faithful h
  wrote-come result core is h has =
      let agrees = subst (λ (p : Result Done Refusal × PrimaryState). Agrees reply.Ok p (step.local_done number h)) (sym is)
      (writes-agree number n.core h has.reached has.leaves.core) in
      let to : (step.local_done number h).1 ≡ (follows (releasing h (step.with_outcome number OnDisk h))).history =
      ap (λ b. (step.tested h ((not b, UnknownJob) ∷ []) (λ _. step.succeeding what.Nothing (releasing h (step.with_outcome number OnDisk h)))).1)
      (unfinished number n w found waits h has) in
      record {
        change = written h (local_map (step.with_outcome number OnDisk h));
        reply = agrees.reply;
        leaves = agrees.leaves;
        keeps = subst (Keeps h (written h (local_map (step.with_outcome number OnDisk h)))) (sym to) (writes-keeps number h);
        taken = refl;
        begun = refl;
        holds = after-written number n w found waits h has;
        falls = has.leaves.faithful;
      }

  failed-come : (offsets : List ℕ) (torn : List (List ℕ)) (result : Result Done Refusal) (core : PrimaryState)
      → (result, core) ≡ transition.local_fault number n.core
      → ((h : PrimaryHistory) (has : NodeHas n h) → (block : ℕ)
      → slice_get torn block ≡ local_map
      (step.with_outcome number (Failed (within (length (the number n w found waits h has).accepted.write.contents) offsets)) h) block)
      → (h : PrimaryHistory) → NodeHas n h → Comes (FailsLocally number offsets) n (replied reply.Ok result) core torn n.faithful h
  failed-come offsets torn result core is holds h has =
      let agrees = subst (λ (p : Result Done Refusal × PrimaryState). Agrees reply.Ok p (step.local_fault number offsets h)) (sym is)
      (faults-agree number offsets n.core h has.reached has.leaves.core) in
      let to : (step.local_fault number offsets h).1 ≡ (follows (step.faulted number offsets h)).history =
      ap (λ b. (step.tested h ((not b, UnknownJob) ∷ []) (λ _. step.succeeding what.Nothing (step.faulted number offsets h))).1)
      (unfinished number n w found waits h has) in record {
        change = written h (local_map (step.faulted number offsets h));
        reply = agrees.reply;
        leaves = agrees.leaves;
        keeps = subst (Keeps h (written h (local_map (step.faulted number offsets h)))) (sym to) (fails-keeps number offsets h);
        taken = refl;
        begun = refl;
        holds = λ block. holds h has block ∙ sym (ap (λ (v : Option Accepted). local_map (faulted_by v h) block) (accepted-is number n w found waits h has));
        falls = has.leaves.faithful;
      }
    where
      faulted_by : Option Accepted → PrimaryHistory → PrimaryHistory
      faulted_by v h = elim v as (λ _. PrimaryHistory) [
        | None ↦ h
        | Some a ↦ step.with_outcome number (Failed (within (length a.write.contents) offsets))
            (record h { marks = marking a.write h.marks })
      ]

  -- the disk did it
  pub node-wrote : (result : Result Done Refusal) (core : PrimaryState) → (result, core) ≡ transition.local_done number n.core
      → NodeSteps (WritesLocally number) n (replied reply.Ok result) (record n { core = core; disk = overwritten n.disk w.first w.blocks })
  node-wrote result core is = comes-steps (WritesLocally number) n (replied reply.Ok result) core (overwritten n.disk w.first w.blocks) n.faithful
      (wrote-come result core is)

  pub wrote-kept : (result : Result Done Refusal) (core : PrimaryState) → NodeIsHad n → (result, core) ≡ transition.local_done number n.core
      → KeepsNode n (record n { core = core; disk = overwritten n.disk w.first w.blocks })
  wrote-kept result core had is = comes-kept (WritesLocally number) n (replied reply.Ok result) core (overwritten n.disk w.first w.blocks) n.faithful
      (wrote-come result core is) had

  -- The disk failed, and left any of its blocks new, or the first ones.

  order-of : (h : PrimaryHistory) → NodeHas n h → IsInOrder h
  order-of h has = (reached-ordered h has.reached).ordered.1.1.1

  torn-holds : (torn : List (List ℕ)) → IsTorn n.disk w.first w.blocks torn → (h : PrimaryHistory) (has : NodeHas n h) → (block : ℕ)
      → slice_get torn block ≡ local_map
      (step.with_outcome number (Failed (within (length (the number n w found waits h has).accepted.write.contents) (new_offsets w.first w.blocks torn))) h)
      block
  torn-holds torn is_torn h has block =
      let its = the number n w found waits h has in
      subst (λ (x : LogWrite). IsTorn n.disk x.first x.blocks torn
      → slice_get torn block ≡ local_map
      (step.with_outcome number (Failed (within (length its.accepted.write.contents) (new_offsets x.first x.blocks torn))) h) block)
      (sym (same-write number n w found waits h has))
      (λ torn_so. disk-torn h (homes number n w found waits h has) (order-of h has) number its.index its.accepted its.at its.number_is its.waits n.disk
      has.leaves.disk (inside number n w found waits h has) torn torn_so block) is_torn

  kept-holds : (kept : ℕ) (h : PrimaryHistory) (has : NodeHas n h) → (block : ℕ)
      → slice_get (overwritten n.disk w.first (take kept w.blocks)) block ≡ local_map
      (step.with_outcome number (Failed (within (length (the number n w found waits h has).accepted.write.contents) (below kept))) h) block
  kept-holds kept h has block =
      let its = the number n w found waits h has in
      ap (λ (x : LogWrite). slice_get (overwritten n.disk x.first (take kept x.blocks)) block) (same-write number n w found waits h has)
      ∙ disk-kept h (homes number n w found waits h has) (order-of h has) number its.index its.accepted its.at its.number_is its.waits n.disk has.leaves.disk
      (inside number n w found waits h has) kept block

  pub node-failed : (torn : List (List ℕ)) (result : Result Done Refusal) (core : PrimaryState) → (result, core) ≡ transition.local_fault number n.core
      → IsTorn n.disk w.first w.blocks torn
      → NodeSteps (FailsLocally number (new_offsets w.first w.blocks torn)) n (replied reply.Ok result) (record n { core = core; disk = torn })
  node-failed torn result core is is_torn =
      comes-steps (FailsLocally number (new_offsets w.first w.blocks torn)) n (replied reply.Ok result) core torn n.faithful
      (failed-come (new_offsets w.first w.blocks torn) torn result core is (torn-holds torn is_torn))

  pub failed-kept : (torn : List (List ℕ)) (result : Result Done Refusal) (core : PrimaryState) → NodeIsHad n
      → (result, core) ≡ transition.local_fault number n.core → IsTorn n.disk w.first w.blocks torn
      → KeepsNode n (record n { core = core; disk = torn })
  failed-kept torn result core had is is_torn =
      comes-kept (FailsLocally number (new_offsets w.first w.blocks torn)) n (replied reply.Ok result) core torn n.faithful
      (failed-come (new_offsets w.first w.blocks torn) torn result core is (torn-holds torn is_torn)) had

  pub node-failed-after : (kept : ℕ) (result : Result Done Refusal) (core : PrimaryState) → (result, core) ≡ transition.local_fault number n.core
      → NodeSteps (FailsLocally number (below kept)) n (replied reply.Ok result)
      (record n { core = core; disk = overwritten n.disk w.first (take kept w.blocks) })
  node-failed-after kept result core is =
      comes-steps (FailsLocally number (below kept)) n (replied reply.Ok result) core (overwritten n.disk w.first (take kept w.blocks)) n.faithful
      (failed-come (below kept) (overwritten n.disk w.first (take kept w.blocks)) result core is (kept-holds kept))

  pub failed-after-kept : (kept : ℕ) (result : Result Done Refusal) (core : PrimaryState) → NodeIsHad n → (result, core) ≡ transition.local_fault number n.core
      → KeepsNode n (record n { core = core; disk = overwritten n.disk w.first (take kept w.blocks) })
  failed-after-kept kept result core had is =
      comes-kept (FailsLocally number (below kept)) n (replied reply.Ok result) core (overwritten n.disk w.first (take kept w.blocks)) n.faithful
      (failed-come (below kept) (overwritten n.disk w.first (take kept w.blocks)) result core is (kept-holds kept)) had
