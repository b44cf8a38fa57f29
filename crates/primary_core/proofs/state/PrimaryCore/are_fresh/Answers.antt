use Rattle.std.proofs.Common.{rules}
use Rattle.primary_core.proofs.state.PrimaryCore.are_fresh.Goals as goal

pub returns-then-is_fresh-2 : goal.returns-then-is_fresh-2
returns-then-is_fresh-2 c = search rules
