use Rattle.std.proofs.Common.{◌<◌, ◌≤◌, sym, ◌∙◌, ap, arith}
use Rattle.transferlog.specs.Ring.{Each}
use Rattle.transferlog.specs.Slots.{writes_in}
use Rattle.transferlog.specs.Writes.{LogWrite}
use Rattle.transferlog.proofs.FirstFrom.{LiesFrom, first_found, lies_next, none_found}
use Rattle.transferlog.proofs.InSlots.{rises_of}
use Rattle.transferlog.proofs.Numbers.{found_number}
use Rattle.transferlog.proofs.Unlinking.{each_to, numbers_below, numbers_from}
use Rattle.transferlog.proofs.ring.Ring.first_from.Goals as goal

pub loop-number-init : goal.loop-number-init
loop-number-init c =
    let r = c.self.inside in
    rw (← c.self.view_is) (each_to (λ (w : LogWrite). r.first ≤ w.number) (LiesFrom c.args.from c.max-number.result) (writes_in r.slots.items)
    (λ w first least. omega (arith, c.max-number.ensures))
    (numbers_from r.first r.first r.slots.items (omega arith) c.self.invariant.numbered))

pub returns-in-Some-clause-first : goal.returns-in-Some-clause-first
returns-in-Some-clause-first c =
    let rises = rises_of c.self.inside c.args.self.now c.self.view_is c.self.invariant in
    c.in-Some.ensures
    ∙ first_found c.args.from c.loop-number.number 0 c.in-Some.write.now c.args.self.now.writes rises
    (omega (arith, c.max-number.ensures, c.loop-number.auto.number)) c.loop-number.invariant (sym c.in-Some.ensures)

pub returns-in-Some-clause-rises : goal.returns-in-Some-clause-rises
returns-in-Some-clause-rises c = rises_of c.self.inside c.args.self.now c.self.view_is c.self.invariant

pub returns-in-Some-clause-below : goal.returns-in-Some-clause-below
returns-in-Some-clause-below c =
    let is = found_number c.loop-number.number c.in-Some.write.now c.args.self.now.writes (sym c.in-Some.ensures) in
    omega (arith, is, c.loop-number-test.true, c.end-number-end.ensures)

pub loop-number-preserved : goal.loop-number-preserved
loop-number-preserved c = lies_next c.args.from c.loop-number.number c.args.self.now.writes c.loop-number.invariant (sym c.in_default.ensures)

pub returns-clause-first : goal.returns-clause-first
returns-clause-first c =
    let r = c.self.inside in
    let next = ap (λ s. s.next) c.self.view_is in
    let past = c.loop-number-test.false in
    let below : Each (λ w. w.number < c.loop-number.number) c.args.self.now.writes =
    rw (← c.self.view_is) (numbers_below c.loop-number.number r.first r.slots.items (omega (arith, next, past, c.end-number-end.ensures, r.slots.ok.0))
    c.self.invariant.numbered) in
    sym (none_found c.args.from c.loop-number.number c.args.self.now.writes c.loop-number.invariant below)

pub returns-clause-rises : goal.returns-clause-rises
returns-clause-rises c = rises_of c.self.inside c.args.self.now c.self.view_is c.self.invariant
