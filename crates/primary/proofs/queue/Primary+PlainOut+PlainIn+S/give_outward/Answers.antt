use Rattle.std.proofs.Common.{rules}
use Rattle.primary.proofs.queue.Primary+PlainOut+PlainIn+S.give_outward.Goals as goal

pub invariant_of-self : goal.invariant_of-self
invariant_of-self g c = search rules

pub invariant_of-self-2 : goal.invariant_of-self-2
invariant_of-self-2 g c = search rules

pub returns-clause-given : goal.returns-clause-given
returns-clause-given g c = search rules
