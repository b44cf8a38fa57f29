use Rattle.std.proofs.Common.{◌≡◌, drop}
use Rattle.std.specs.Prelude.{slice_get}
use Rattle.transferlog.specs.Slots.{writes_in}
use Rattle.transferlog.proofs.ring.Ring.nth.Given as goal

abbrev pub invariant-loop-slot : goal.invariant-loop-slot
invariant-loop-slot l = slice_get (writes_in l.self-inside.slots.items) l.index ≡ slice_get (writes_in (drop l.slot l.self-inside.slots.items)) l.left
