use Rattle.std.proofs.Common.{rules}
use Rattle.primary_core.proofs.outbox.Outbox.pop.Goals as goal

pub invariant_of-self-in-Some : goal.invariant_of-self-in-Some
invariant_of-self-in-Some c = search rules

pub invariant_of-self-in_default : goal.invariant_of-self-in_default
invariant_of-self-in_default c = search rules

pub returns-clause-items : goal.returns-clause-items
returns-clause-items c = search rules
