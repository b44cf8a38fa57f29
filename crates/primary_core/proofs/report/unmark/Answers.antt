use Rattle.std.proofs.Common.{false, arith}
use Rattle.transferlog.specs.declared.report.Released.{Released}
use Rattle.primary_core.proofs.Unmarked.{contains-at, unmark-step, unmark-all, unmark-unmarked}
use Rattle.primary_core.proofs.report.unmark.Goals as goal

pub loop-write-preserved : goal.loop-write-preserved
loop-write-preserved c =
    let was = c.loop-write.invariant in
    let none : Released = record { number = 0; first = 0; count = 0; clears = false } in
    let items = c.released-write-items.ensures in
    let inside = rw (← items) at was.inside in
    let rest = rw (← items) at was.rest in
    let step = unmark-step c.released-write-items.result.now c.loop-write.write-index none c.args.log.now.state.last_writes c.args.marks.now c.loop-write.marks
    c.clear.new.marks
    c.loop-write-test.true was.size inside rest c.clear.ensures in
    rw (← items) (record { size = step.0; inside = step.1.0; rest = step.1.1 })

pub returns : goal.returns
returns c =
    let items = c.released-write-items.ensures in
    let rest = rw (← items) at c.loop-write.invariant.rest in
    rw (← items) (unmark-all c.released-write-items.result.now c.loop-write.write-index c.args.log.now.state.last_writes c.args.marks.now c.loop-write.marks
    c.loop-write-test.false rest)

pub clear-requires-clause-reported : goal.clear-requires-clause-reported
clear-requires-clause-reported c =
    let none : Released = record { number = 0; first = 0; count = 0; clears = false } in
    rw (← c.released-write-items.ensures) (contains-at c.released-write-items.result.now c.loop-write.write-index none c.loop-write-test.true)

pub returns-then-count-eq0 : goal.returns-then-count-eq0
returns-then-count-eq0 c = unmark-unmarked c.args.log.now.state.released c.args.log.now.state.last_writes c.args.marks.now (omega arith)
