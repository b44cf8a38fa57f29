use Rattle.std.proofs.Common.{rules}
use Rattle.transferlog.proofs.log.TransferLog.local_fault.Goals as goal

pub returns : goal.returns
returns c = search rules
