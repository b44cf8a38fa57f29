use Rattle.std.proofs.Common.{rules}
use Rattle.program_values.proofs.number.hexadecimal_digit.Goals as goal

pub returns-in-65-to-70-clause-value : goal.returns-in-65-to-70-clause-value
returns-in-65-to-70-clause-value c = search rules
