use Rattle.std.proofs.Common.{◌≡◌, ◌+◌, length, refl, ap, arith, length-append, deque_len}
use Rattle.transferlog.specs.Ring.{WaitsFrom}
use Rattle.transferlog.specs.Slots.{writes_in}
use Rattle.transferlog.proofs.InSlots.{writes_in-push, numbered-push, few_writes}
use Rattle.transferlog.proofs.Waiting.{each_pushed}
use Rattle.transferlog.proofs.ring.Ring.push.Goals as goal

pub overflow_add-self : goal.overflow_add-self
overflow_add-self c =
    let s = c.self.inside in
    let small = ap (λ r. r.next) c.self.view_is in
    omega (arith, few_writes s.slots.items, s.slots.ok.0, c.self.invariant.counted, c.self.invariant.first, c.requires.small, small)

pub invariant_of-self : goal.invariant_of-self
invariant_of-self c =
    let s = c.self.inside in
    let next = ap (λ r. r.next) c.self.view_is in
    let number : c.args.write.number ≡ s.first + length s.slots.items = omega (arith, next, c.requires.next, s.slots.ok.0) in
    record {
      numbered = rw c.push_back_reserved.ensures.items (numbered-push s.first s.slots.items c.args.write c.self.invariant.numbered number);
      counted = rw c.push_back_reserved.ensures.items
          (rw (writes_in-push s.slots.items c.args.write) (simp length-append (omega (arith, c.self.invariant.counted))));
      first = c.self.invariant.first;
      small = omega (arith, c.push_back_reserved.ensures.len, next, c.requires.small);
      waiting = rw c.push_back_reserved.ensures.items
          (rw (writes_in-push s.slots.items c.args.write)
          (each_pushed (WaitsFrom s.waiting) (writes_in s.slots.items) c.args.write c.self.invariant.waiting
          (λ is. omega (arith, number, c.self.invariant.waiting_within, s.slots.ok.0))));
      waiting_within = omega (arith, c.push_back_reserved.ensures.len, c.self.invariant.waiting_within);
    }

pub returns : goal.returns
returns c =
    let s = c.self.inside in
    let next : s.first + deque_len c.push_back_reserved.new.self ≡ (s.first + deque_len s.slots) + 1 = omega (arith, c.push_back_reserved.ensures.len) in
    rw (← c.self.view_is) (rw (c.push_back_reserved.ensures.items, writes_in-push s.slots.items c.args.write, next) refl)
