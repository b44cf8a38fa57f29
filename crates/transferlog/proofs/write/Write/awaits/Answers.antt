use Rattle.std.proofs.Common.{rules}
use Rattle.transferlog.proofs.write.Write.awaits.Goals as goal

pub returns-then-self-2 : goal.returns-then-self-2
returns-then-self-2 c = search rules

pub returns-else-self-2 : goal.returns-else-self-2
returns-else-self-2 c = search rules
