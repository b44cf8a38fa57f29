use Rattle.std.proofs.Common.{rules}
use Rattle.blocks.proofs.range.Range.contains.Goals as goal

pub returns-then-self-block : goal.returns-then-self-block
returns-then-self-block c = search rules
