use Rattle.std.proofs.Common.{rules}
use Rattle.nbd.proofs.step.refuse_request.Goals as goal

pub returns-then-header-number : goal.returns-then-header-number
returns-then-header-number c = search rules
