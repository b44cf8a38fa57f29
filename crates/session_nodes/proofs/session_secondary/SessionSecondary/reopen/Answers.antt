use Rattle.std.proofs.Common.{rules}
use Rattle.session_nodes.proofs.session_secondary.SessionSecondary.reopen.Goals as goal

pub open_again-requires : goal.open_again-requires
open_again-requires g c = search rules

pub returns-clause-numbered : goal.returns-clause-numbered
returns-clause-numbered g c = search rules
