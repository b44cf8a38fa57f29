use Rattle.std.proofs.Common.{rules}
use Rattle.thread_link.proofs.named_out.NamedOutFrameOut.offer.Goals as goal

pub invariant_of-self : goal.invariant_of-self
invariant_of-self g c = search rules

pub returns-clause-in_part : goal.returns-clause-in_part
returns-clause-in_part g c = search rules

pub returns-clause-full : goal.returns-clause-full
returns-clause-full g c = search rules
