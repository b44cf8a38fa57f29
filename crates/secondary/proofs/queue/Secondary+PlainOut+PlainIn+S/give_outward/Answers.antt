use Rattle.std.proofs.Common.{rules}
use Rattle.secondary.proofs.queue.Secondary+PlainOut+PlainIn+S.give_outward.Goals as goal

pub returns-clause-given : goal.returns-clause-given
returns-clause-given g c = search rules
