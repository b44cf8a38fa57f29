use Rattle.std.proofs.Common.{rules}
use Rattle.secondary.proofs.state.Secondary.is_consistent.Goals as goal

pub returns : goal.returns
returns g c = search rules
