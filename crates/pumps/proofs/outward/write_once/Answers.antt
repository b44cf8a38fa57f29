use Rattle.std.proofs.Common.{rules}
use Rattle.pumps.proofs.outward.write_once.Goals as goal

pub returns-in-Ok-clause-written : goal.returns-in-Ok-clause-written
returns-in-Ok-clause-written g c = search rules
