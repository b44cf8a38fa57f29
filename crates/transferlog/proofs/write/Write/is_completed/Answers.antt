use Rattle.std.proofs.Common.{rules}
use Rattle.transferlog.proofs.write.Write.is_completed.Goals as goal

pub returns-then-self : goal.returns-then-self
returns-then-self c = search rules

pub returns-else-self : goal.returns-else-self
returns-else-self c = search rules

pub returns-else-eq : goal.returns-else-eq
returns-else-eq c = search rules
