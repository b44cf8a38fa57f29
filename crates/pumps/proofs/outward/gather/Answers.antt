use Rattle.std.proofs.Common.{rules}
use Rattle.pumps.proofs.outward.gather.Goals as goal

pub returns-clause-empty : goal.returns-clause-empty
returns-clause-empty g c = search rules
