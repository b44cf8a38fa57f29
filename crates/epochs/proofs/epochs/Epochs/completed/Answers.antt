use Rattle.std.proofs.Common.{rules}
use Rattle.epochs.proofs.epochs.Epochs.completed.Goals as goal

pub returns-then-not-is_last : goal.returns-then-not-is_last
returns-then-not-is_last c = search rules

pub returns : goal.returns
returns c = search rules
