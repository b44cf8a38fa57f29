use Rattle.std.proofs.Common.{rules}
use Rattle.blocks.proofs.memory.MemStore.from_image.Goals as goal

pub overflow_cast-t-9 : goal.overflow_cast-t-9
overflow_cast-t-9 c = search rules

pub invariant_of-result : goal.invariant_of-result
invariant_of-result c = search rules

pub returns-clause-accepted : goal.returns-clause-accepted
returns-clause-accepted c = search rules
