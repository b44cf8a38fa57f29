use Rattle.std.proofs.Common.{rules}
use Rattle.primary.proofs.state.Primary.connection_number.Goals as goal

pub returns : goal.returns
returns g c = search rules
