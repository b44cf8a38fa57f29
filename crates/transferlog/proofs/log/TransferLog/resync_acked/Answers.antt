use Rattle.std.proofs.Common.{true, refl, ap, rules}
use Rattle.transferlog.proofs.Kept.{bounded_ended, log_quiet}
use Rattle.transferlog.proofs.log.TransferLog.resync_acked.Goals as goal

pub invariant_of-self : goal.invariant_of-self
invariant_of-self c =
    let inv = c.self.invariant in
    log_quiet c.self.inside _ inv refl refl refl refl refl c.forget_all.ensures.capacity c.clear.ensures.capacity
    (rw (ap (λ p. p.1) c.completed.ensures) (bounded_ended true 0 c.self.inside.acknowledged_through c.self.inside.accepted c.self.inside.epochs.state
    (record { confirmed_writes = inv.acknowledged_through; begun = inv.begun })))
    (record { blocks = refl; numbers = c.forget_all.ensures.numbers; known = c.forget_all.ensures.known }) c.forget_all.ensures.items

pub returns : goal.returns
returns c = search rules
