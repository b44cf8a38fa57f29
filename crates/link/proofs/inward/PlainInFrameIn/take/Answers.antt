use Rattle.std.proofs.Common.{rules}
use Rattle.link.proofs.inward.PlainInFrameIn.take.Goals as goal

pub returns-in_default-take-clause-direction : goal.returns-in_default-take-clause-direction
returns-in_default-take-clause-direction c = search rules

pub returns-in_default-take-clause-unchanged : goal.returns-in_default-take-clause-unchanged
returns-in_default-take-clause-unchanged c = search rules

pub returns-clause-exact : goal.returns-clause-exact
returns-clause-exact c = search rules

pub returns-clause-same_capacity : goal.returns-clause-same_capacity
returns-clause-same_capacity c = search rules
