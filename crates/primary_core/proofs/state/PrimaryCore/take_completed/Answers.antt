use Rattle.std.proofs.Common.{rules, arith}
use Rattle.std.proofs.lemmas.Grind.{common_steps}
use Rattle.primary_core.proofs.state.PrimaryCore.take_completed.Goals as goal

pub returns-else-is_given : goal.returns-else-is_given
returns-else-is_given c = search rules
