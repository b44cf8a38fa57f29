use Rattle.std.proofs.Common.{rules}
use Rattle.epochs.proofs.epochs.Epochs.place.Goals as goal

pub invariant_of-self-then-self : goal.invariant_of-self-then-self
invariant_of-self-then-self c = search rules

pub returns-then-self-clause-placed : goal.returns-then-self-clause-placed
returns-then-self-clause-placed c = search rules

pub returns-then-self-clause-refused : goal.returns-then-self-clause-refused
returns-then-self-clause-refused c = search rules

pub returns-then-self-clause-unchanged : goal.returns-then-self-clause-unchanged
returns-then-self-clause-unchanged c = search rules

pub returns-then-self-clause-roomy : goal.returns-then-self-clause-roomy
returns-then-self-clause-roomy c = search rules

pub invariant_of-self-2 : goal.invariant_of-self-2
invariant_of-self-2 c = search rules

pub returns-clause-placed : goal.returns-clause-placed
returns-clause-placed c = search rules
