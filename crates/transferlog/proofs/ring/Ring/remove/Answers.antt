use Rattle.std.proofs.Common.{◌≡◌, ◌+◌, ◌-◌, ◌<◌, length, refl, sym, ◌∙◌, arith, None}
use Rattle.std.proofs.lemmas.List.{get_or_read}
use Rattle.transferlog.specs.Ring.{WaitsFrom}
use Rattle.transferlog.specs.Slots.{writes_in}
use Rattle.transferlog.proofs.Numbers.{without-none}
use Rattle.transferlog.proofs.InSlots.{none_before, none_in_hole, without-slot, numbered-set, length-removed, set_same, past_the_end, found}
use Rattle.transferlog.proofs.Waiting.{each_removed}
use Rattle.transferlog.proofs.ring.Ring.remove.Goals as goal

pub returns-then-number-self : goal.returns-then-number-self
returns-then-number-self c =
    let s = c.self.inside in
    let none = none_before c.args.number s.first s.slots.items c.if-number-self.true c.self.invariant.numbered in
    rw (← c.self.view_is) (rw (without-none c.args.number (writes_in s.slots.items) none) refl)

pub returns-then-index-len : goal.returns-then-index-len
returns-then-index-len c =
    let s = c.self.inside in
    let i = c.args.number - s.first in
    let past = past_the_end i s.slots.items (omega (arith, s.slots.ok.0)) in
    let none = none_in_hole c.args.number s.first i s.slots.items (omega arith) c.self.invariant.numbered past in
    rw (← c.self.view_is) (rw (without-none c.args.number (writes_in s.slots.items) none) refl)

pub returns-in_default : goal.returns-in_default
returns-in_default c =
    let s = c.self.inside in
    let i = c.args.number - s.first in
    let inside : i < length s.slots.items = omega (arith, s.slots.ok.0) in
    let hole = sym (get_or_read s.slots.items i c.index_mut.result.now inside c.index_mut.ensures.value None) ∙ (sym c.take.ensures.value ∙ c.in_default.is) in
    let none = none_in_hole c.args.number s.first i s.slots.items (omega arith) c.self.invariant.numbered hole in
    rw (← c.self.view_is) (rw (without-none c.args.number (writes_in s.slots.items) none) (rw c.take.ensures.after (rw (set_same i s.slots.items hole) refl)))

pub overflow_sub-self : goal.overflow_sub-self
overflow_sub-self c =
    let s = c.self.inside in
    let i = c.args.number - s.first in
    let inside : i < length s.slots.items = omega (arith, s.slots.ok.0) in
    let is = found s.slots.items i c.index_mut.result.now c.in-Some.field-0 inside c.index_mut.ensures.value (sym c.take.ensures.value ∙ c.in-Some.is) in
    omega (arith, length-removed i c.in-Some.field-0 s.slots.items is, c.self.invariant.counted)

pub invariant_of-self-2 : goal.invariant_of-self-2
invariant_of-self-2 c =
    let s = c.self.inside in
    let i = c.args.number - s.first in
    let inside : i < length s.slots.items = omega (arith, s.slots.ok.0) in
    let at : c.args.number ≡ s.first + i = omega arith in
    let is = found s.slots.items i c.index_mut.result.now c.in-Some.field-0 inside c.index_mut.ensures.value (sym c.take.ensures.value ∙ c.in-Some.is) in
    rw c.take.ensures.after (record {
      numbered = numbered-set c.args.number s.first i None s.slots.items at tt c.self.invariant.numbered;
      counted = omega (arith, length-removed i c.in-Some.field-0 s.slots.items is, c.self.invariant.counted);
      first = c.self.invariant.first;
      small = c.self.invariant.small;
      waiting = each_removed (WaitsFrom s.waiting) i s.slots.items c.self.invariant.waiting;
      waiting_within = c.self.invariant.waiting_within;
    })

pub returns : goal.returns
returns c =
    let s = c.self.inside in
    let i = c.args.number - s.first in
    let at : c.args.number ≡ s.first + i = omega arith in
    let e = without-slot c.args.number s.first i s.slots.items at c.self.invariant.numbered in
    rw (← c.self.view_is) (c.drop_holes.ensures ∙ rw (c.take.ensures.after, e) refl)
