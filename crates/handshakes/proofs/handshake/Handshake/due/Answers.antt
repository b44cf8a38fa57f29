use Rattle.std.proofs.Common.{rules}
use Rattle.handshakes.proofs.handshake.Handshake.due.Goals as goal

pub returns : goal.returns
returns c = search rules
