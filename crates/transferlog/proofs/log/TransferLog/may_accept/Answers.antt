use Rattle.std.proofs.Common.{rules}
use Rattle.transferlog.proofs.log.TransferLog.may_accept.Goals as goal

pub returns-clause-full : goal.returns-clause-full
returns-clause-full c = search rules
