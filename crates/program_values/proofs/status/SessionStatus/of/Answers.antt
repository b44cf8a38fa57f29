use Rattle.std.proofs.Common.{rules}
use Rattle.program_values.proofs.status.SessionStatus.of.Goals as goal

pub returns-in-NoMemory : goal.returns-in-NoMemory
returns-in-NoMemory c = search rules
