use Rattle.std.proofs.Common.{refl, ap, rules}
use Rattle.transferlog.proofs.Kept.{log_quiet}
use Rattle.transferlog.proofs.log.TransferLog.place_resync.Goals as goal

pub invariant_of-self-2 : goal.invariant_of-self-2
invariant_of-self-2 c =
    let inv = c.self.invariant in
    log_quiet c.self.inside _ inv refl refl refl refl refl c.forget_all.ensures.capacity c.clear.ensures.capacity
    (let placed = ap (λ p. p.1.1) c.in_ok-place.ensures.placed in record { confirmed_writes = rw placed inv.acknowledged_through; begun = rw placed inv.begun })
    (record { blocks = refl; numbers = c.forget_all.ensures.numbers; known = c.forget_all.ensures.known }) c.forget_all.ensures.items

pub returns-clause-placed : goal.returns-clause-placed
returns-clause-placed c = search rules
