use Rattle.std.proofs.Common.{rules}
use Rattle.transferlog.proofs.protocol.is_asked.Goals as goal

pub returns-in_default-3 : goal.returns-in_default-3
returns-in_default-3 c = search rules

pub returns-in-B-Received-2 : goal.returns-in-B-Received-2
returns-in-B-Received-2 c = search rules
