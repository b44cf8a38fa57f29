use Rattle.std.proofs.Common.{refl, ap, rules}
use Rattle.transferlog.proofs.Kept.{log_quiet}
use Rattle.transferlog.proofs.log.TransferLog.uuids.Goals as goal

pub invariant_of-self : goal.invariant_of-self
invariant_of-self c =
    let inv = c.self.invariant in
    log_quiet c.self.inside _ inv refl refl refl refl refl c.forget_all.ensures.capacity c.clear.ensures.capacity
    (let placed = ap (λ p. p.1) c.uuids.ensures in record { confirmed_writes = rw placed inv.acknowledged_through; begun = rw placed inv.begun })
    (record { blocks = refl; numbers = c.forget_all.ensures.numbers; known = c.forget_all.ensures.known }) c.forget_all.ensures.items

pub returns : goal.returns
returns c = search rules
