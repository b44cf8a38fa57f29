use Rattle.std.proofs.Common.{◌≡◌, ℕ, ◌+◌, ◌<◌, ◌≤◌, None, length, sym, ◌∙◌, ap, subst, arith, false, true}
use Rattle.transferlog.specs.Ring.{Each, RingState, WaitsFrom, is_waiting_at, write_at}
use Rattle.transferlog.specs.Slots.{IsRing, ring_of}
use Rattle.transferlog.specs.declared.ring.Ring.TheInside.{Inside}
use Rattle.transferlog.proofs.InSlots.{past_the_end, rises_of, write_at-slot}
use Rattle.transferlog.proofs.Unlinking.{numbers_below}
use Rattle.transferlog.proofs.Waiting.{first_found, none_found, waits_next}
use Rattle.transferlog.proofs.ring.Ring.lowest_waiting.Goals as goal

-- no write has the next number
none_at_end : (r : Inside) (s : RingState) (n : ℕ) → ring_of r ≡ s → IsRing r → n ≡ r.first + length r.slots.items → write_at n s.writes ≡ None
none_at_end r s n is ring at =
    rw (← is) (write_at-slot n r.first (length r.slots.items) r.slots.items at ring.numbered ∙ past_the_end (length r.slots.items) r.slots.items (omega arith))

below_end : (r : Inside) (s : RingState) (n : ℕ) → ring_of r ≡ s → IsRing r → r.first + length r.slots.items ≤ n → Each (λ w. w.number < n) s.writes
below_end r s n is ring least = rw (← is) (numbers_below n r.first r.slots.items least ring.numbered)

pub loop-number-preserved : goal.loop-number-preserved
loop-number-preserved c =
    let settled : is_waiting_at (write_at c.loop-number.number c.args.self.now.writes) ≡ false = sym c.is_waiting.ensures ∙ c.if-is_waiting.false in
    waits_next c.loop-number.number 0 c.args.self.now.writes (rises_of c.self.inside c.args.self.now c.self.view_is c.self.invariant) c.loop-number.invariant
    settled

pub returns-then-is_waiting-clause-lowest : goal.returns-then-is_waiting-clause-lowest
returns-then-is_waiting-clause-lowest c =
    let waits : is_waiting_at (write_at c.loop-number.number c.args.self.now.writes) ≡ true = sym c.is_waiting.ensures ∙ c.if-is_waiting.true in
    first_found c.loop-number.number 0 c.args.self.now.writes (rises_of c.self.inside c.args.self.now c.self.view_is c.self.invariant) c.loop-number.invariant
    waits

pub returns-clause-lowest : goal.returns-clause-lowest
returns-clause-lowest c =
    let r = c.self.inside in
    let ws = c.args.self.now.writes in
    let next = ap (λ s. s.next) c.self.view_is in
    let at : c.end.result ≡ r.first + length r.slots.items = omega (arith, next, c.end.ensures, r.slots.ok.0) in
    let same : c.loop-number.number ≡ c.end.result = omega (arith, c.loop-number.auto.number-end, c.self.invariant.waiting_within, next, r.slots.ok.0) in
    let from = subst (λ (n : ℕ). Each (WaitsFrom n) ws) same c.loop-number.invariant in
    none_at_end r c.args.self.now c.end.result c.self.view_is c.self.invariant at
    ∙ sym (none_found c.end.result ws from (below_end r c.args.self.now c.end.result c.self.view_is c.self.invariant (omega arith)))
