use Rattle.std.proofs.Common.{rules}
use Rattle.session_api.proofs.begun.Begun.end.Goals as goal

pub returns-then-count-clause-own : goal.returns-then-count-clause-own
returns-then-count-clause-own c = search rules
