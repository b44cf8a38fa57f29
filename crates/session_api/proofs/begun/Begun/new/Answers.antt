use Rattle.std.proofs.Common.{rules}
use Rattle.session_api.proofs.begun.Begun.new.Goals as goal

pub returns-clause-blocks : goal.returns-clause-blocks
returns-clause-blocks c = search rules
