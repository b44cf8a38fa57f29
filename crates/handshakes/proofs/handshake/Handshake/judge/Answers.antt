use Rattle.std.proofs.Common.{rules}
use Rattle.handshakes.proofs.handshake.Handshake.judge.Goals as goal

pub returns-else-blocks-from : goal.returns-else-blocks-from
returns-else-blocks-from c = search rules
