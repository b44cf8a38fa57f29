use Rattle.std.proofs.Common.{rules}
use Rattle.link.proofs.queue.Queue.offer.Goals as goal

pub invariant_of-self : goal.invariant_of-self
invariant_of-self c = search rules

pub returns-clause-full : goal.returns-clause-full
returns-clause-full c = search rules

pub returns-clause-put : goal.returns-clause-put
returns-clause-put c = search rules
