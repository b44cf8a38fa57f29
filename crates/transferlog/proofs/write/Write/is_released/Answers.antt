use Rattle.std.proofs.Common.{rules}
use Rattle.transferlog.proofs.write.Write.is_released.Goals as goal

pub returns-then-not-self : goal.returns-then-not-self
returns-then-not-self c = search rules

pub returns-else-not-self : goal.returns-else-not-self
returns-else-not-self c = search rules

pub returns-else-is_settled : goal.returns-else-is_settled
returns-else-is_settled c = search rules
