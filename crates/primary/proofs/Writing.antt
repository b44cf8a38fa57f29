-- What a call that has the disk do a write comes to.
use Rattle.std.proofs.Common.{ℕ, ◌≡◌, ◌+◌, ◌*◌, ◌<◌, ◌≤◌, ◌||◌, true, not, List, length, take, Some, Result, Err, refl, sym, ◌∙◌, ap, subst, arith}
use Rattle.blocks.specs.Contents.{blocks_of, overwritten, IsTorn}
use Rattle.blocks.specs.Faults.{FaultState, written}
use Rattle.blocks.specs.declared.refusal.Refusal.{Refusal}
use Rattle.blocks.specs.declared.outcome.Done.{Done}
use Rattle.blocks.specs.declared.outcome.Reply.{Reply}
use Rattle.blocks.specs.declared.outcome.Reply.TheVariants as reply
use Rattle.transferlog.specs.Ring.{write_at}
use Rattle.transferlog.specs.Writes as log
use Rattle.transferlog.specs.Writes.{LogWrite}
use Rattle.transferlog.specs.declared.local.Local.{Local}
use Rattle.transferlog.specs.declared.local.Local.TheVariants.{Waiting}
use Rattle.model.specs.LocalRuns.{FailsLocally, WritesLocally}
use Rattle.model.specs.Pair.{local_fault_kept}
use Rattle.model.specs.Primary.{PrimaryHistory}
use Rattle.primary_protocol.specs.Core.{PrimaryState}
use Rattle.primary_protocol.specs.Transitions.{local_done, local_fault}
use Rattle.primary_protocol.specs.Node.{IsStep, NodeState, primary_step}
use Rattle.primary_protocol.specs.Steps.{replied}
use Rattle.primary_protocol.proofs.Node.Disk.{new_offsets}
use Rattle.primary_protocol.proofs.Node.Writing.{failed-after-kept, failed-kept, fault-kept, node-failed, node-failed-after, node-wrote, write-inside}
use Rattle.primary_protocol.proofs.Node.Writing.{wrote-kept}
use Rattle.primary.specs.State.{PrimaryView, IsNode, node}
use Rattle.primary.proofs.Kept.{StepsTo, kept-is}

-- a write that the disk has to do waits
pub waiting : (w : LogWrite) → w.local ≡ Waiting → log.is_waiting w ≡ true
waiting w is = ap (λ (l : Local). not (log.is_on_disk l || log.has_failed l)) is

-- the step of a call that was refused
pub refused-step : (step : PrimaryHistory → Reply × PrimaryHistory) (n : NodeState) (result : Result Done Refusal) (e x : Refusal) → result ≡ Err e → e ≡ x
    → IsStep step n (reply.Refused x) n → IsStep step n (replied reply.Ok result) n
refused-step step n result e x is same steps = subst (λ (r : Result Done Refusal). IsStep step n (replied reply.Ok r) n) (sym (is ∙ ap Err same)) steps

-- The write lies on the disk.
pub inside-disk : (v : PrimaryView) (number first count : ℕ) (w : LogWrite) → IsNode v → (write_at number v.core.log.writes ≡ Some w) × (w.local ≡ Waiting)
    → first ≡ w.first → count ≡ w.count → first + count ≤ length v.disk
inside-disk v number first count w was job from many = let fits = write-inside number (node v) w job.0 (waiting w job.1) was.had in omega arith

-- The disk does a write, whose bytes are these, or fails it.
module _ (v : PrimaryView) (number : ℕ) (w : LogWrite) (first : ℕ) (bytes contents : List ℕ) (result : Result Done Refusal) (core : PrimaryState)
    (disk : List (List ℕ)) (was : IsNode v) (job : (write_at number v.core.log.writes ≡ Some w) × (w.local ≡ Waiting)) (at : first ≡ w.first)
    (shown : bytes ≡ contents) (whole : blocks_of 4096 contents ≡ w.blocks) where
  blocks : blocks_of 4096 bytes ≡ w.blocks
  blocks = ap (blocks_of 4096) shown ∙ whole

  pub wrote : (result, core) ≡ local_done number v.core → disk ≡ overwritten v.disk first (blocks_of 4096 bytes)
      → StepsTo (primary_step (WritesLocally number)) v (replied reply.Ok result) core disk v.faithful
  wrote is held =
      subst (λ (d : List (List ℕ)). StepsTo (primary_step (WritesLocally number)) v (replied reply.Ok result) core d v.faithful) (sym (held ∙ (λ i. overwritten v.disk (at i) (blocks i))))
      (record {
        steps = node-wrote number (node v) w job.0 (waiting w job.1) result core is;
        is = kept-is v core (overwritten v.disk w.first w.blocks) v.faithful was (wrote-kept number (node v) w job.0 (waiting w job.1) result core was.had is);
      })

  pub failed : (result, core) ≡ local_fault number v.core → IsTorn v.disk first (blocks_of 4096 bytes) disk
      → StepsTo (primary_step (FailsLocally number (new_offsets w.first w.blocks disk))) v (replied reply.Ok result) core disk v.faithful
  failed is torn =
      let is_torn : IsTorn v.disk w.first w.blocks disk = subst (λ (n : ℕ). IsTorn v.disk n w.blocks disk) at
      (subst (λ (l : List (List ℕ)). IsTorn v.disk first l disk) blocks torn) in
      record {
        steps = node-failed number (node v) w job.0 (waiting w job.1) disk result core is is_torn;
        is = kept-is v core disk v.faithful was (failed-kept number (node v) w job.0 (waiting w job.1) disk result core was.had is is_torn);
      }

  -- a fault that leaves exactly the first blocks new
  pub failed-after : (kept count : ℕ) → count ≡ w.count → kept ≤ count → (result, core) ≡ local_fault number v.core
      → disk ≡ overwritten v.disk first (take kept (blocks_of 4096 bytes)) → StepsTo (local_fault_kept number kept) v (replied reply.Ok result) core disk v.faithful
  failed-after kept count many few is held =
      subst (λ (d : List (List ℕ)). StepsTo (local_fault_kept number kept) v (replied reply.Ok result) core d v.faithful)
      (sym (held ∙ (λ i. overwritten v.disk (at i) (take kept (blocks i))))) (record {
        steps = fault-kept number (node v) w job.0 (waiting w job.1) kept (replied reply.Ok result) _ (omega arith)
            (node-failed-after number (node v) w job.0 (waiting w job.1) kept result core is);
        is = kept-is v core (overwritten v.disk w.first (take kept w.blocks)) v.faithful was
            (failed-after-kept number (node v) w job.0 (waiting w job.1) kept result core was.had is);
      })

-- the disk after an armed write
pub armed-write : (s t u : FaultState) (kept first : ℕ) (blocks : List (List ℕ)) → t ≡ record s { write_arming = Some (record { passes = 0; kept = kept }) }
    → u ≡ written first blocks t → u.disk ≡ overwritten s.disk first (take kept blocks)
armed-write s t u kept first blocks armed after = ap (λ (x : FaultState). x.disk) (after ∙ ap (written first blocks) armed)
