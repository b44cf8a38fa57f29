use Rattle.std.proofs.Common.{rules}
use Rattle.secondary_core.proofs.state.SecondaryCore.close.Goals as goal

pub returns : goal.returns
returns c = search rules
