use Rattle.std.proofs.Common.{rules}
use Rattle.epochs.proofs.epochs.Epochs.is_awaited.Goals as goal

pub returns-then-oldest : goal.returns-then-oldest
returns-then-oldest c = search rules
