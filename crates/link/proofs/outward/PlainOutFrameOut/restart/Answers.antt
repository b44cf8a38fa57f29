use Rattle.std.proofs.Common.{rules}
use Rattle.link.proofs.outward.PlainOutFrameOut.restart.Goals as goal

pub returns : goal.returns
returns c = search rules
