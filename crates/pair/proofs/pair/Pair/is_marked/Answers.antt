use Rattle.std.proofs.Common.{rules}
use Rattle.pair.proofs.pair.Pair.is_marked.Goals as goal

pub returns : goal.returns
returns c = search rules
