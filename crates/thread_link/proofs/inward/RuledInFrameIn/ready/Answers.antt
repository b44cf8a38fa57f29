use Rattle.std.proofs.Common.{rules}
use Rattle.thread_link.proofs.inward.RuledInFrameIn.ready.Goals as goal

pub invariant_of-self : goal.invariant_of-self
invariant_of-self g c = search rules

pub returns-clause-ready : goal.returns-clause-ready
returns-clause-ready g c = search rules
