use Rattle.std.proofs.Common.{rules}
use Rattle.thread_link.proofs.gathered.Gathered.ready.Goals as goal

pub invariant_of-self : goal.invariant_of-self
invariant_of-self c = search rules
