use Rattle.std.proofs.Common.{rules}
use Rattle.link.proofs.inward.PlainIn.give_queue.Goals as goal

pub returns-clause-given : goal.returns-clause-given
returns-clause-given c = search rules
