use Rattle.std.proofs.Common.{◌≡◌, ◌+◌, deque_len}
use Rattle.transferlog.specs.Slots.{IsRing, writes_in}
use Rattle.transferlog.proofs.ring.Ring.drop_holes.Given as goal

abbrev pub invariant-loop-self : goal.invariant-loop-self
invariant-loop-self l = record {
  ring : IsRing l.self-inside;
  writes : writes_in l.self-inside.slots.items ≡ writes_in l.initial.self-inside.slots.items;
  next : l.self-inside.first + deque_len l.self-inside.slots ≡ l.initial.self-inside.first + deque_len l.initial.self-inside.slots;
}

abbrev pub decreases-loop-self : goal.decreases-loop-self
decreases-loop-self l = deque_len l.self-inside.slots
