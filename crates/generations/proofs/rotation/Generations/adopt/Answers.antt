use Rattle.std.proofs.Common.{rules}
use Rattle.generations.proofs.rotation.Generations.adopt.Goals as goal

pub returns : goal.returns
returns c = search rules
