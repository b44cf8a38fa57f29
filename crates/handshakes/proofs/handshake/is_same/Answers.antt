use Rattle.std.proofs.Common.{rules}
use Rattle.handshakes.proofs.handshake.is_same.Goals as goal

pub returns-in_default-2 : goal.returns-in_default-2
returns-in_default-2 c = search rules

pub returns-in-A-A-2 : goal.returns-in-A-A-2
returns-in-A-A-2 c = search rules
