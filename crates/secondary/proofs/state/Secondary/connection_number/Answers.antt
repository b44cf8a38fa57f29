use Rattle.std.proofs.Common.{rules}
use Rattle.secondary.proofs.state.Secondary.connection_number.Goals as goal

pub returns-clause-number : goal.returns-clause-number
returns-clause-number g c = search rules

pub returns-clause-history : goal.returns-clause-history
returns-clause-history g c = search rules
