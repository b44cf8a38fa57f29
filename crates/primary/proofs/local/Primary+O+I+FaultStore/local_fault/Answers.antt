use Rattle.std.proofs.Common.{rules, ◌≡◌, ◌<◌, Err, subst}
use Rattle.primary_protocol.proofs.Node.Writing.{fault-too-many, fault-unknown}
use Rattle.primary.proofs.Writing.{armed-write, failed-after, inside-disk, refused-step, waiting}
use Rattle.primary.proofs.local.Primary+O+I+FaultStore.local_fault.Goals as goal

pub returns-in_err-write-clause-step : goal.returns-in_err-write-clause-step
returns-in_err-write-clause-step g c =
    let refused : c.from_residual.result ≡ Err c.in_err-write.field-0.0 = search rules in
    rw (← c.self.view_is) (refused-step _ _ _ _ _ refused c.in_err-write.ensures.write.0
    (fault-unknown c.args.number c.args.kept _ c.in_err-write.ensures.write.1))

pub write-requires-clause-inside : goal.write-requires-clause-inside
write-requires-clause-inside g c =
    rw c.arm.ensures (inside-disk _ c.args.number _ _ _ c.self.invariant c.in_ok-write.ensures.write c.range-2.ensures.first c.range-2.ensures.count)

pub returns-then-kept-range-clause-step : goal.returns-then-kept-range-clause-step
returns-then-kept-range-clause-step g c =
    let more : c.in_ok-write.write.now.count < c.args.kept = subst (λ n. n < c.args.kept) c.range.ensures.count c.if-kept-range.true in
    rw (← c.self.view_is) (fault-too-many c.args.number _ c.in_ok-write.write.now c.in_ok-write.ensures.write.0
    (waiting c.in_ok-write.write.now c.in_ok-write.ensures.write.1) c.args.kept more)

pub invariant_of-self : goal.invariant_of-self
invariant_of-self g c =
    (failed-after _ c.args.number _ _ _ _ _ _ _ c.self.invariant c.in_ok-write.ensures.write c.range-2.ensures.first c.deref.ensures c.contents.ensures.blocks
    c.args.kept _ c.range.ensures.count c.if-kept-range.false c.failed.ensures
    (armed-write c.self.inside.store _ _ _ _ _ c.arm.ensures c.write.ensures.after)).is _ _

pub returns-clause-step : goal.returns-clause-step
returns-clause-step g c =
    rw (← c.self.view_is) (failed-after _ c.args.number _ _ _ _ _ _ _ c.self.invariant c.in_ok-write.ensures.write c.range-2.ensures.first
    c.deref.ensures c.contents.ensures.blocks c.args.kept _ c.range.ensures.count c.if-kept-range.false c.failed.ensures
    (armed-write c.self.inside.store _ _ _ _ _ c.arm.ensures c.write.ensures.after)).steps
