use Rattle.std.proofs.Common.{rules}
use Rattle.epochs.proofs.epochs.Epochs.unacknowledged.Goals as goal

pub returns : goal.returns
returns c = search rules
