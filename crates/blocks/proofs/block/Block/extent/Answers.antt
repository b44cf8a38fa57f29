use Rattle.std.proofs.Common.{rules}
use Rattle.blocks.proofs.block.Block.extent.Goals as goal

pub returns : goal.returns
returns c = search rules
