use Rattle.std.proofs.Common.{rules}
use Rattle.blocks.proofs.range.Range.new.Goals as goal

pub overflow_sub-device : goal.overflow_sub-device
overflow_sub-device c = search rules

pub invariant_of-result : goal.invariant_of-result
invariant_of-result c = search rules

pub returns-clause-accepted : goal.returns-clause-accepted
returns-clause-accepted c = search rules
