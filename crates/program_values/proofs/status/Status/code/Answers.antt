use Rattle.std.proofs.Common.{rules}
use Rattle.program_values.proofs.status.Status.code.Goals as goal

pub returns-in-Misused : goal.returns-in-Misused
returns-in-Misused c = search rules
