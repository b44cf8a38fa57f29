use Rattle.std.proofs.Common.{subst}
use Rattle.nbd.specs.Machine.{Machine, Waits}
use Rattle.nbd.proofs.Waiting.{held_bounded}
use Rattle.nbd.proofs.connection.Connection.is_waiting.Goals as goal

pub returns-clause-bounded : goal.returns-clause-bounded
returns-clause-bounded c =
    let now = c.args.self.now in
    let waits : Waits now.export now.phase now.held = subst (λ (m : Machine). Waits m.export m.phase m.held) c.self.view_is c.self.invariant in
    held_bounded now.export now.phase now.held waits
