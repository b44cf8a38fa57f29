use Rattle.std.proofs.Common.{rules}
use Rattle.nbd.proofs.step.give.Goals as goal

pub returns : goal.returns
returns c = search rules
