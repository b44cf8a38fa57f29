use Rattle.std.proofs.Common.{rules}
use Rattle.primary_core.proofs.state.PrimaryCore.is_fresh.Goals as goal

pub returns-in-Some : goal.returns-in-Some
returns-in-Some c = search rules
