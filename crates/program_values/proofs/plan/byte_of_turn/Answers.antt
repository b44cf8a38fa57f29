use Rattle.std.proofs.Common.{rules}
use Rattle.program_values.proofs.plan.byte_of_turn.Goals as goal

pub returns : goal.returns
returns c = search rules
