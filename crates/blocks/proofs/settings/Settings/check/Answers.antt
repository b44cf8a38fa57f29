use Rattle.std.proofs.Common.{rules}
use Rattle.blocks.proofs.settings.Settings.check.Goals as goal

pub returns-then-is_within-6-clause-accepted : goal.returns-then-is_within-6-clause-accepted
returns-then-is_within-6-clause-accepted c = search rules

pub returns-then-is_within-6-clause-refused : goal.returns-then-is_within-6-clause-refused
returns-then-is_within-6-clause-refused c = search rules
