use Rattle.std.proofs.Common.{rules}
use Rattle.primary.proofs.state.Primary.into_parts.Goals as goal

pub returns-clause-outgoing : goal.returns-clause-outgoing
returns-clause-outgoing g c = search rules
