use Rattle.std.proofs.Common.{rules}
use Rattle.program_values.proofs.number.byte.Goals as goal

pub returns : goal.returns
returns c = search rules
