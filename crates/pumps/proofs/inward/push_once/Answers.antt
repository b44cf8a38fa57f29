use Rattle.std.proofs.Common.{rules}
use Rattle.pumps.proofs.inward.push_once.Goals as goal

pub new-requires-clause-few : goal.new-requires-clause-few
new-requires-clause-few g c = search rules
