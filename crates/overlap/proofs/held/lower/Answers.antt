use Rattle.std.proofs.Common.{rules}
use Rattle.overlap.proofs.held.lower.Goals as goal

pub returns-in-Some : goal.returns-in-Some
returns-in-Some c = search rules
