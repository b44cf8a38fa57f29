use Rattle.std.proofs.Common.{◌≡◌, ◌+◌, ◌-◌, ◌<◌, length, sym, ◌∙◌, arith, None}
use Rattle.std.proofs.lemmas.List.{get_or_read}
use Rattle.transferlog.specs.Slots.{writes_in}
use Rattle.transferlog.proofs.Numbers.{write_at-none}
use Rattle.transferlog.proofs.InSlots.{none_before, write_at-slot, past_the_end}
use Rattle.transferlog.proofs.ring.Ring.get.Goals as goal

pub returns-then-number-self : goal.returns-then-number-self
returns-then-number-self c =
    let s = c.self.inside in
    rw (← c.self.view_is) (sym (write_at-none c.args.number (writes_in s.slots.items)
    (none_before c.args.number s.first s.slots.items c.if-number-self.true c.self.invariant.numbered)))

pub returns-then-index-len : goal.returns-then-index-len
returns-then-index-len c =
    let s = c.self.inside in
    let i = c.args.number - s.first in
    let past = past_the_end i s.slots.items (omega (arith, s.slots.ok.0)) in
    let at : c.args.number ≡ s.first + i = omega arith in
    rw (← c.self.view_is) (sym (write_at-slot c.args.number s.first i s.slots.items at c.self.invariant.numbered ∙ past))

pub returns : goal.returns
returns c =
    let s = c.self.inside in
    let i = c.args.number - s.first in
    let inside : i < length s.slots.items = omega (arith, s.slots.ok.0) in
    let at : c.args.number ≡ s.first + i = omega arith in
    let read = get_or_read s.slots.items i c.index.result.now inside c.index.ensures None in
    rw (← c.self.view_is) (c.as_ref.ensures.value ∙ (read ∙ sym (write_at-slot c.args.number s.first i s.slots.items at c.self.invariant.numbered)))
