use Rattle.std.proofs.Common.{rules}
use Rattle.blocks.proofs.outcome.Done.about.Goals as goal

pub returns : goal.returns
returns c = search rules
