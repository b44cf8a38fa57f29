use Rattle.std.proofs.Common.{rules}
use Rattle.transferlog.proofs.write.Write.local.Goals as goal

pub returns : goal.returns
returns c = search rules
