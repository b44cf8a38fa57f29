use Rattle.std.proofs.Common.{rules}
use Rattle.blocks.proofs.position.StreamPosition.connection.Goals as goal

pub returns : goal.returns
returns c = search rules
