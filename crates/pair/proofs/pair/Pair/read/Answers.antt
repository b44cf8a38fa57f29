use Rattle.std.proofs.Common.{rules}
use Rattle.pair.proofs.pair.Pair.read.Goals as goal

pub returns-in-Secondary-clause-read : goal.returns-in-Secondary-clause-read
returns-in-Secondary-clause-read c = search rules
