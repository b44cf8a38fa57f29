use Rattle.std.proofs.Common.{rules}
use Rattle.generations.proofs.rotation.Generations.sync_start.Goals as goal

pub returns : goal.returns
returns c = search rules
