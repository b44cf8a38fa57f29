use Rattle.std.proofs.Common.{rules}
use Rattle.generations.proofs.rotation.Generations.into_history.Goals as goal

pub returns : goal.returns
returns c = search rules
