use Rattle.std.proofs.Common.{rules}
use Rattle.program_values.proofs.status.SessionStatus.code.Goals as goal

pub returns-in-Refused : goal.returns-in-Refused
returns-in-Refused c = search rules
