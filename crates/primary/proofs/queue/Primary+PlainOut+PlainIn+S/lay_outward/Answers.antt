use Rattle.std.proofs.Common.{rules}
use Rattle.primary.proofs.queue.Primary+PlainOut+PlainIn+S.lay_outward.Goals as goal

pub invariant_of-self : goal.invariant_of-self
invariant_of-self g c = search rules

pub returns-clause-laid : goal.returns-clause-laid
returns-clause-laid g c = search rules
