use Rattle.std.proofs.Common.{arith}
use Rattle.std.proofs.lemmas.Grind.{common_steps}
use Rattle.secondary_core.proofs.outbox.Outbox.next.Goals as goal

pub returns-clause-due : goal.returns-clause-due
returns-clause-due c = grind (arith, common_steps)
