use Rattle.std.proofs.Common.{rules, ◌≡◌, ◌∙◌, None, Err, inl, inr, refl, ap}
use Rattle.primary.proofs.Kept.{lowered}
use Rattle.blocks.specs.declared.refusal.Refusal.TheVariants.{NoMemory}
use Rattle.primary.proofs.Copying.{choice-refused, chosen-inside, copied, copied-steps, is-chosen, memory-refused, read-fails, same-is}
use Rattle.primary.proofs.state.Primary.resync_next.Goals as goal

pub returns-in_err-block-clause-step : goal.returns-in_err-block-clause-step
returns-in_err-block-clause-step g c =
    let refused : c.from_residual.result ≡ Err c.in_err-block.field-0.0 = search rules in
    rw (← c.self.view_is) (inl (
      refl,
      (None, (λ _. refl), (choice-refused _ _ _ c.self.invariant c.resync_block.ensures.same refl _ _ refused c.in_err-block.ensures.block).copies),
    ))

pub returns-in_err-bytes-clause-step : goal.returns-in_err-bytes-clause-step
returns-in_err-bytes-clause-step g c =
    let refused : c.from_residual-in_err-bytes.result ≡ Err NoMemory = search rules in
    rw (← c.self.view_is) (inl (
      refl,
      (None, (λ _. refl), (memory-refused _ _ _ c.self.invariant c.resync_block.ensures.same refl _ _ refused c.in_ok-block.ensures.block).copies),
    ))

pub read-requires-clause-inside : goal.read-requires-clause-inside
read-requires-clause-inside g c = chosen-inside _ _ c.self.invariant.had (is-chosen _ _ c.in_ok-block.ensures.block)

pub invariant_of-self-in_err-contents-in-Ok : goal.invariant_of-self-in_err-contents-in-Ok
invariant_of-self-in_err-contents-in-Ok g c = same-is _ _ _ c.self.invariant c.resync_block.ensures.same c.read.ensures.same _ _ _ c.read.ensures.falls

pub returns-in_err-contents-in-Ok-clause-step : goal.returns-in_err-contents-in-Ok-clause-step
returns-in_err-contents-in-Ok-clause-step g c =
    let refused : c.from_residual-in_err-contents-in-Ok.result ≡ Err NoMemory = search rules in
    rw (← c.self.view_is) (inl (
      c.in-Ok.ensures.uncounted,
      (
        None,
        (λ _. refl),
        lowered _ _ _ _ _ c.read.ensures.falls
            (memory-refused _ _ _ c.self.invariant c.resync_block.ensures.same c.read.ensures.same _ _ refused c.in_ok-block.ensures.block).copies,
      ),
    ))

pub invariant_of-self-in-Ok : goal.invariant_of-self-in-Ok
invariant_of-self-in-Ok g c =
    (copied _ _ _ c.self.invariant c.resync_block.ensures.same c.read.ensures.same _ _ _ _ _ _ _ _ c.read.ensures.falls c.in_ok-block.ensures.block
    c.in-Ok.ensures.read
    (c.read.auto.buffer ∙ c.deref_mut.ensures.len) c.in_ok-contents-in-Ok.ensures.ok c.resync_read.ensures).is _ _

pub returns-in_ok-contents-in-Ok-clause-step : goal.returns-in_ok-contents-in-Ok-clause-step
returns-in_ok-contents-in-Ok-clause-step g c =
    rw (← c.self.view_is) (inl (
      c.in-Ok.ensures.uncounted,
      copied-steps _ _ _ c.self.invariant c.resync_block.ensures.same c.read.ensures.same _ _ _ _ _ _ _ _ c.read.ensures.falls c.in_ok-block.ensures.block
          c.in-Ok.ensures.read (c.read.auto.buffer ∙ c.deref_mut.ensures.len) c.in_ok-contents-in-Ok.ensures.ok c.resync_read.ensures,
    ))

pub invariant_of-self-in-Err-1 : goal.invariant_of-self-in-Err-1
invariant_of-self-in-Err-1 g c = same-is _ _ _ c.self.invariant c.resync_block.ensures.same c.read.ensures.same _ _ _ c.read.ensures.falls

pub returns-in-Err-clause-step : goal.returns-in-Err-clause-step
returns-in-Err-clause-step g c =
    rw (← c.self.view_is) (inr (
      c.in-Err.ensures.counted,
      lowered _ _ _ _ _ c.read.ensures.falls
          (read-fails _ _ _ c.self.invariant c.resync_block.ensures.same c.read.ensures.same _ c.in_ok-block.ensures.block),
    ))
