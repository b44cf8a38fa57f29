use Rattle.std.proofs.Common.{rules, ◌≡◌, Err, inl, inr, refl, subst, false}
use Rattle.std.specs.Prelude.{IsTrue}
use Rattle.primary.proofs.Kept.{lowered, lowered-is}
use Rattle.primary_protocol.proofs.Node.Writing.{node-unknown}
use Rattle.primary.proofs.Writing.{failed, inside-disk, refused-step, wrote}
use Rattle.primary.proofs.state.Primary.local.Goals as goal

pub returns-in_err-write-clause-step : goal.returns-in_err-write-clause-step
returns-in_err-write-clause-step g c =
    let refused : c.from_residual.result ≡ Err c.in_err-write.field-0.0 = search rules in
    rw (← c.self.view_is) (inl (
      refl,
      refused-step _ _ _ _ _ refused c.in_err-write.ensures.write.0 (node-unknown c.args.number _ c.in_err-write.ensures.write.1),
    ))

pub write-requires-clause-inside : goal.write-requires-clause-inside
write-requires-clause-inside g c =
    inside-disk _ c.args.number _ _ _ c.self.invariant c.in_ok-write.ensures.write c.range.ensures.first c.range.ensures.count

pub invariant_of-self : goal.invariant_of-self
invariant_of-self g c =
    lowered-is _ _ _ _ (subst IsTrue c.write.ensures.still_faithful) ((wrote _ c.args.number _ _ _ _ _ _ _ c.self.invariant c.in_ok-write.ensures.write c.range.ensures.first c.deref.ensures c.contents.ensures.blocks
    c.done.ensures c.in-Ok.ensures.written).is 0 false)

pub invariant_of-self-in-Err : goal.invariant_of-self-in-Err
invariant_of-self-in-Err g c =
    lowered-is _ _ _ _ (subst IsTrue c.write.ensures.still_faithful) ((failed _ c.args.number _ _ _ _ _ _ _ c.self.invariant c.in_ok-write.ensures.write c.range.ensures.first c.deref.ensures c.contents.ensures.blocks
    c.failed.ensures c.in-Err.ensures.torn).is 0 false)

pub returns-in-Ok-clause-step : goal.returns-in-Ok-clause-step
returns-in-Ok-clause-step g c =
    rw (← c.self.view_is) (inl (
      c.in-Ok.ensures.uncounted,
      lowered _ _ _ _ _ (subst IsTrue c.write.ensures.still_faithful) (wrote _ c.args.number _ _ _ _ _ _ _ c.self.invariant
          c.in_ok-write.ensures.write c.range.ensures.first c.deref.ensures c.contents.ensures.blocks
          c.done.ensures c.in-Ok.ensures.written).steps,
    ))

pub returns-in-Err-clause-step : goal.returns-in-Err-clause-step
returns-in-Err-clause-step g c =
    rw (← c.self.view_is) (inr (
      c.in-Err.ensures.counted,
      (
        _,
        lowered _ _ _ _ _ (subst IsTrue c.write.ensures.still_faithful) (failed _ c.args.number _ _ _ _ _ _ _ c.self.invariant
            c.in_ok-write.ensures.write c.range.ensures.first c.deref.ensures c.contents.ensures.blocks
            c.failed.ensures c.in-Err.ensures.torn).steps,
      ),
    ))
