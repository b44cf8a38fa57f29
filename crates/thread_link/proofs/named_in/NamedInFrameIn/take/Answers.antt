use Rattle.std.proofs.Common.{rules}
use Rattle.thread_link.proofs.named_in.NamedInFrameIn.take.Goals as goal

pub invariant_of-self : goal.invariant_of-self
invariant_of-self g c = search rules

pub returns-clause-nothing : goal.returns-clause-nothing
returns-clause-nothing g c = search rules

pub returns-clause-empty : goal.returns-clause-empty
returns-clause-empty g c = search rules
