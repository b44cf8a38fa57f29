use Rattle.std.proofs.Common.{rules}
use Rattle.primary.proofs.state.Primary.journal.Goals as goal

pub returns : goal.returns
returns g c = search rules
