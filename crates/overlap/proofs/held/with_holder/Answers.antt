use Rattle.std.proofs.Common.{rules}
use Rattle.overlap.proofs.held.with_holder.Goals as goal

pub overflow_sub-first : goal.overflow_sub-first
overflow_sub-first c = search rules

pub returns-then-first-start : goal.returns-then-first-start
returns-then-first-start c = search rules

pub returns : goal.returns
returns c = search rules
