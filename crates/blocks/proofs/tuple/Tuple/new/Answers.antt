use Rattle.std.proofs.Common.{rules}
use Rattle.blocks.proofs.tuple.Tuple.new.Goals as goal

pub returns-clause-first : goal.returns-clause-first
returns-clause-first c = search rules
