use Rattle.std.proofs.Common.{rules}
use Rattle.blocks.proofs.faulty.FaultStoreStore.read.Goals as goal

pub returns-in-Some-eq0-clause-after : goal.returns-in-Some-eq0-clause-after
returns-in-Some-eq0-clause-after c = search rules

pub overflow_sub-self : goal.overflow_sub-self
overflow_sub-self c = search rules

pub returns-clause-after : goal.returns-clause-after
returns-clause-after c = search rules
