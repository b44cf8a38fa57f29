use Rattle.std.proofs.Common.{rules}
use Rattle.transferlog.proofs.write.Write.new.Goals as goal

pub returns : goal.returns
returns c = search rules
