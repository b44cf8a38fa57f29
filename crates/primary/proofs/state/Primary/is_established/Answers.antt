use Rattle.std.proofs.Common.{rules}
use Rattle.primary.proofs.state.Primary.is_established.Goals as goal

pub returns : goal.returns
returns g c = search rules
