use Rattle.std.proofs.Common.{◌+◌, ◌<◌, ◌≤◌, arith}
use Rattle.transferlog.specs.Writes.{LogWrite}
use Rattle.transferlog.specs.Ring.{ReleasedFrom, ReleasedBelow}
use Rattle.transferlog.specs.Slots.{writes_in}
use Rattle.transferlog.proofs.Unlinking.{numbers_from, numbers_below, each_to}
use Rattle.transferlog.proofs.ring.Ring.release_rest.Goals as goal

pub release_all-requires-clause-low : goal.release_all-requires-clause-low
release_all-requires-clause-low c =
    let s = c.self.inside in
    rw (← c.self.view_is) (each_to (λ (w : LogWrite). s.first ≤ w.number) (ReleasedFrom c.args.acknowledged_through s.first) (writes_in s.slots.items)
    (λ w least released. least)
    (numbers_from s.first s.first s.slots.items (omega arith) c.self.invariant.numbered))

pub release_all-requires-clause-high : goal.release_all-requires-clause-high
release_all-requires-clause-high c =
    let s = c.self.inside in
    let high = s.first + c.len.result in
    rw (← c.self.view_is) (each_to (λ (w : LogWrite). w.number < high) (ReleasedBelow c.args.acknowledged_through high) (writes_in s.slots.items)
    (λ w below released. below)
    (numbers_below high s.first s.slots.items (omega (arith, c.len.ensures, s.slots.ok.0)) c.self.invariant.numbered))
