use Rattle.std.proofs.Common.{rules}
use Rattle.blocks.proofs.refusal.Refusal.is_busy.Goals as goal

pub returns-in_default : goal.returns-in_default
returns-in_default c = search rules

pub returns-in-Conflict-9 : goal.returns-in-Conflict-9
returns-in-Conflict-9 c = search rules
