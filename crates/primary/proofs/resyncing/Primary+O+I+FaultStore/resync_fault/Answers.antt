use Rattle.std.proofs.Common.{rules, ◌≡◌, ◌∙◌, Err, ap, refl}
use Rattle.blocks.specs.declared.refusal.Refusal.TheVariants.{NoMemory}
use Rattle.primary.specs.State.{PrimaryView}
use Rattle.primary.proofs.Copying.{armed-same, armed-steady, choice-refused, chosen-inside, is-chosen, memory-refused, read-fails, same-is}
use Rattle.primary.proofs.resyncing.Primary+O+I+FaultStore.resync_fault.Goals as goal

pub returns-in_err-block-clause-step : goal.returns-in_err-block-clause-step
returns-in_err-block-clause-step g c =
    let refused : c.from_residual.result ≡ Err c.in_err-block.field-0.0 = search rules in
    rw (← c.self.view_is) (choice-refused _ _ _ c.self.invariant c.resync_block.ensures.same refl _ _ refused c.in_err-block.ensures.block).fails

pub returns-in_err-bytes-clause-step : goal.returns-in_err-bytes-clause-step
returns-in_err-bytes-clause-step g c =
    let refused : c.from_residual-in_err-bytes.result ≡ Err NoMemory = search rules in
    rw (← c.self.view_is) (memory-refused _ _ _ c.self.invariant c.resync_block.ensures.same refl _ _ refused c.in_ok-block.ensures.block).fails

pub read-requires-clause-inside : goal.read-requires-clause-inside
read-requires-clause-inside g c = rw c.arm_read.ensures (chosen-inside _ _ c.self.invariant.had (is-chosen _ _ c.in_ok-block.ensures.block))

pub invariant_of-self-2 : goal.invariant_of-self-2
invariant_of-self-2 g c =
    same-is _ _ _ c.self.invariant c.resync_block.ensures.same (armed-same c.self.inside.store _ _ c.arm_read.ensures c.read.ensures.after) _ _ _
    (λ faithful. faithful)

pub returns-clause-step : goal.returns-clause-step
returns-clause-step g c =
    rw (← c.self.view_is) (read-fails _ _ _ c.self.invariant c.resync_block.ensures.same
    (armed-same c.self.inside.store _ _ c.arm_read.ensures c.read.ensures.after) _ c.in_ok-block.ensures.block)

pub returns-clause-works : goal.returns-clause-works
returns-clause-works g c = λ known.
    armed-steady c.self.inside.store _ _ c.arm_read.ensures c.read.ensures.after (ap (λ (v : PrimaryView). v.steady) c.self.view_is ∙ known)
