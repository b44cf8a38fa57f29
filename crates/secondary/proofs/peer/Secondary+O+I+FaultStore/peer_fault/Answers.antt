use Rattle.std.proofs.Common.{◌≡◌, ◌+◌, ◌<◌, ◌≤◌, length, Err, rules, ap, arith}
use Rattle.std.proofs.lemmas.Bool.Decides.{nat_tests}
use Rattle.model.specs.Stream.{contents_of, first_of}
use Rattle.secondary_protocol.proofs.Node.Faults.{node-fault-not-started, node-keeps-too-many}
use Rattle.secondary.proofs.Applies.{armed-write, failed-after, on-disk, refused-step}
use Rattle.secondary.proofs.peer.Secondary+O+I+FaultStore.peer_fault.Goals as goal

pub returns-in_err-failing-clause-step : goal.returns-in_err-failing-clause-step
returns-in_err-failing-clause-step g c =
    let refused : c.from_residual.result ≡ Err c.in_err-failing.field-0.0 = search rules in
    rw (← c.self.view_is) (refused-step _ _ _ _ refused (node-fault-not-started _ c.args.place c.args.kept _ c.in_err-failing.ensures.started))

pub returns-then-kept-range-clause-step : goal.returns-then-kept-range-clause-step
returns-then-kept-range-clause-step g c =
    let many : length (contents_of c.in_ok-failing.failing.now) < c.args.kept = grind (arith, nat_tests, c.range.ensures.count, c.if-kept-range.true) in
    rw (← c.self.view_is) (node-keeps-too-many _ c.args.place c.args.kept _ c.in_ok-failing.ensures.started many)

pub write-requires-clause-inside : goal.write-requires-clause-inside
write-requires-clause-inside g c =
    let inside : first_of c.in_ok-failing.failing.now + length (contents_of c.in_ok-failing.failing.now) ≤ length c.self.inside.store.disk =
    on-disk _ c.in_ok-failing.failing.now c.self.invariant c.in_ok-failing.ensures.inside in
    let same : length c.arm.new.self.disk ≡ length c.self.inside.store.disk = ap (λ s. length s.disk) c.arm.ensures in
    omega (arith, inside, same, c.range-2.ensures.first, c.range-2.ensures.count)

pub invariant_of-self : goal.invariant_of-self
invariant_of-self g c =
    let few : c.args.kept ≤ length (contents_of c.in_ok-failing.failing.now) = grind (arith, nat_tests, c.range.ensures.count, c.if-kept-range.false) in
    (failed-after _ _ _ _ _ _ _ _ _ c.self.invariant c.in_ok-failing.ensures.started c.in_ok-failing.ensures.inside c.range-2.ensures.first
    c.as_slice.ensures c.contents.ensures.blocks c.failed.ensures.done c.args.kept few c.failed.ensures.state
    (armed-write c.self.inside.store _ _ _ _ _ c.arm.ensures c.write.ensures.after)).is _ _ _

pub returns-clause-step : goal.returns-clause-step
returns-clause-step g c =
    let few : c.args.kept ≤ length (contents_of c.in_ok-failing.failing.now) = grind (arith, nat_tests, c.range.ensures.count, c.if-kept-range.false) in
    rw (← c.self.view_is) (failed-after _ _ _ _ _ _ _ _ _ c.self.invariant c.in_ok-failing.ensures.started c.in_ok-failing.ensures.inside
    c.range-2.ensures.first c.as_slice.ensures c.contents.ensures.blocks c.failed.ensures.done c.args.kept few c.failed.ensures.state
    (armed-write c.self.inside.store _ _ _ _ _ c.arm.ensures c.write.ensures.after)).steps
