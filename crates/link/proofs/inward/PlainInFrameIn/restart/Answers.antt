use Rattle.std.proofs.Common.{rules}
use Rattle.link.proofs.inward.PlainInFrameIn.restart.Goals as goal

pub returns-clause-restarted : goal.returns-clause-restarted
returns-clause-restarted c = search rules
