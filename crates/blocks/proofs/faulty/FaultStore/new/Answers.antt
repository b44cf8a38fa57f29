use Rattle.std.proofs.Common.{rules}
use Rattle.blocks.proofs.faulty.FaultStore.new.Goals as goal

pub returns : goal.returns
returns c = search rules
