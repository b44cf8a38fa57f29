use Rattle.std.proofs.Common.{rules}
use Rattle.generations.proofs.rotation.Generations.sync_end.Goals as goal

pub returns : goal.returns
returns c = search rules
