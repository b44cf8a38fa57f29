use Rattle.std.proofs.Common.{rules}
use Rattle.link.proofs.outward.PlainOut.lay_queue.Goals as goal

pub invariant_of-self : goal.invariant_of-self
invariant_of-self c = search rules

pub returns-clause-back : goal.returns-clause-back
returns-clause-back c = search rules

pub returns-clause-direction : goal.returns-clause-direction
returns-clause-direction c = search rules
