use Rattle.std.proofs.Common.{◌≡◌, ◌+◌, ◌-◌, ◌<◌, length, refl, sym, ◌∙◌, arith, None, Some}
use Rattle.std.proofs.lemmas.List.{get_or_read}
use Rattle.transferlog.specs.Ring.{changed, WaitsFrom}
use Rattle.transferlog.specs.Slots.{writes_in}
use Rattle.transferlog.proofs.Numbers.{with_change-none, write_at-none}
use Rattle.transferlog.proofs.InSlots.{rises_in, write_at-slot, none_before, none_in_hole, with_change-slot, numbered-set, numbered_at, length-changed}
use Rattle.transferlog.proofs.InSlots.{set_same, found, number-changed, past_the_end}
use Rattle.transferlog.proofs.Waiting.{each_changed, waits_changed}
use Rattle.transferlog.proofs.ring.Ring.change.Goals as goal

pub returns-then-number-self-clause-next : goal.returns-then-number-self-clause-next
returns-then-number-self-clause-next c =
    let s = c.self.inside in
    let none = none_before c.args.number s.first s.slots.items c.if-number-self.true c.self.invariant.numbered in
    rw (← c.self.view_is) (rw (with_change-none c.args.number (changed c.args.change) (writes_in s.slots.items) none) refl)

pub returns-then-index-len-clause-next : goal.returns-then-index-len-clause-next
returns-then-index-len-clause-next c =
    let s = c.self.inside in
    let i = c.args.number - s.first in
    let past = past_the_end i s.slots.items (omega (arith, s.slots.ok.0)) in
    let none = none_in_hole c.args.number s.first i s.slots.items (omega arith) c.self.invariant.numbered past in
    rw (← c.self.view_is) (rw (with_change-none c.args.number (changed c.args.change) (writes_in s.slots.items) none) refl)

pub returns-in_default-clause-next : goal.returns-in_default-clause-next
returns-in_default-clause-next c =
    let s = c.self.inside in
    let i = c.args.number - s.first in
    let inside : i < length s.slots.items = omega (arith, s.slots.ok.0) in
    let hole = sym (get_or_read s.slots.items i c.index_mut.result.now inside c.index_mut.ensures.value None) ∙ c.in_default.is in
    let none = none_in_hole c.args.number s.first i s.slots.items (omega arith) c.self.invariant.numbered hole in
    rw (← c.self.view_is) (rw (with_change-none c.args.number (changed c.args.change) (writes_in s.slots.items) none)
    (rw c.in_default.is (rw (set_same i s.slots.items hole) refl)))

pub invariant_of-self-2 : goal.invariant_of-self-2
invariant_of-self-2 c =
    let s = c.self.inside in
    let i = c.args.number - s.first in
    let inside : i < length s.slots.items = omega (arith, s.slots.ok.0) in
    let at : c.args.number ≡ s.first + i = omega arith in
    let is = found s.slots.items i c.index_mut.result.now c.in-Some.write inside c.index_mut.ensures.value c.in-Some.is in
    let number = numbered_at c.args.number s.first i c.in-Some.write s.slots.items at c.self.invariant.numbered is in
    record {
      numbered = numbered-set c.args.number s.first i (Some c.apply-report.new.self) s.slots.items at
          (rw c.apply-report.ensures.next (number-changed c.args.change c.in-Some.write ∙ number)) c.self.invariant.numbered;
      counted = c.self.invariant.counted ∙ sym (length-changed i c.in-Some.write c.apply-report.new.self s.slots.items is);
      first = c.self.invariant.first;
      small = c.self.invariant.small;
      waiting = each_changed (WaitsFrom s.waiting) i c.in-Some.write c.apply-report.new.self s.slots.items is
          (λ from. rw c.apply-report.ensures.next (waits_changed s.waiting c.args.change c.in-Some.write from)) c.self.invariant.waiting;
      waiting_within = c.self.invariant.waiting_within;
    }

pub returns-clause-next : goal.returns-clause-next
returns-clause-next c =
    let s = c.self.inside in
    let i = c.args.number - s.first in
    let inside : i < length s.slots.items = omega (arith, s.slots.ok.0) in
    let at : c.args.number ≡ s.first + i = omega arith in
    let is = found s.slots.items i c.index_mut.result.now c.in-Some.write inside c.index_mut.ensures.value c.in-Some.is in
    rw (← c.self.view_is) (rw (
      c.apply-report.ensures.next,
      with_change-slot c.args.number s.first i (changed c.args.change) c.in-Some.write s.slots.items at c.self.invariant.numbered is,
    ) refl)

pub returns-then-number-self-clause-rises : goal.returns-then-number-self-clause-rises
returns-then-number-self-clause-rises c =
    let s = c.self.inside in rw (← c.self.view_is) (rises_in 0 s.first s.slots.items (omega arith) c.self.invariant.numbered)

pub returns-then-index-len-clause-rises : goal.returns-then-index-len-clause-rises
returns-then-index-len-clause-rises c =
    let s = c.self.inside in rw (← c.self.view_is) (rises_in 0 s.first s.slots.items (omega arith) c.self.invariant.numbered)

pub returns-in_default-clause-rises : goal.returns-in_default-clause-rises
returns-in_default-clause-rises c =
    let s = c.self.inside in rw (← c.self.view_is) (rises_in 0 s.first s.slots.items (omega arith) c.self.invariant.numbered)

pub returns-clause-rises : goal.returns-clause-rises
returns-clause-rises c =
    let s = c.self.inside in rw (← c.self.view_is) (rises_in 0 s.first s.slots.items (omega arith) c.self.invariant.numbered)

pub returns-then-number-self-clause-report : goal.returns-then-number-self-clause-report
returns-then-number-self-clause-report c =
    let s = c.self.inside in
    let none = none_before c.args.number s.first s.slots.items c.if-number-self.true c.self.invariant.numbered in
    rw (← c.self.view_is) (rw (write_at-none c.args.number (writes_in s.slots.items) none) refl)

pub returns-then-index-len-clause-report : goal.returns-then-index-len-clause-report
returns-then-index-len-clause-report c =
    let s = c.self.inside in
    let i = c.args.number - s.first in
    let past = past_the_end i s.slots.items (omega (arith, s.slots.ok.0)) in
    let none = none_in_hole c.args.number s.first i s.slots.items (omega arith) c.self.invariant.numbered past in
    rw (← c.self.view_is) (rw (write_at-none c.args.number (writes_in s.slots.items) none) refl)

pub returns-in_default-clause-report : goal.returns-in_default-clause-report
returns-in_default-clause-report c =
    let s = c.self.inside in
    let i = c.args.number - s.first in
    let inside : i < length s.slots.items = omega (arith, s.slots.ok.0) in
    let hole = sym (get_or_read s.slots.items i c.index_mut.result.now inside c.index_mut.ensures.value None) ∙ c.in_default.is in
    let none = none_in_hole c.args.number s.first i s.slots.items (omega arith) c.self.invariant.numbered hole in
    rw (← c.self.view_is) (rw (write_at-none c.args.number (writes_in s.slots.items) none) refl)

pub returns-clause-report : goal.returns-clause-report
returns-clause-report c =
    let s = c.self.inside in
    let i = c.args.number - s.first in
    let inside : i < length s.slots.items = omega (arith, s.slots.ok.0) in
    let at : c.args.number ≡ s.first + i = omega arith in
    let is = found s.slots.items i c.index_mut.result.now c.in-Some.write inside c.index_mut.ensures.value c.in-Some.is in
    rw (← c.self.view_is) (rw (write_at-slot c.args.number s.first i s.slots.items at c.self.invariant.numbered, is) (rw c.apply-report.ensures.report refl))

pub invariant_of-self-3 : goal.invariant_of-self-3
invariant_of-self-3 c =
    let s = c.self.inside in
    let i = c.args.number - s.first in
    let inside : i < length s.slots.items = omega (arith, s.slots.ok.0) in
    let at : c.args.number ≡ s.first + i = omega arith in
    let is = found s.slots.items i c.index_mut.result.now c.in-Some.write inside c.index_mut.ensures.value c.in-Some.is in
    let number = numbered_at c.args.number s.first i c.in-Some.write s.slots.items at c.self.invariant.numbered is in
    record {
      numbered = numbered-set c.args.number s.first i (Some c.apply-report.new.self) s.slots.items at
          (rw c.apply-report.ensures.next (number-changed c.args.change c.in-Some.write ∙ number)) c.self.invariant.numbered;
      counted = c.self.invariant.counted ∙ sym (length-changed i c.in-Some.write c.apply-report.new.self s.slots.items is);
      first = c.self.invariant.first;
      small = c.self.invariant.small;
      waiting = c.lowest_waiting-self-inside.ensures.from;
      waiting_within = c.lowest_waiting-self-inside.ensures.within;
    }
