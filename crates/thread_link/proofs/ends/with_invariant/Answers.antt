use Rattle.std.proofs.Common.{rules}
use Rattle.thread_link.proofs.ends.with_invariant.Goals as goal

pub returns-clause-inward : goal.returns-clause-inward
returns-clause-inward g c = search rules
