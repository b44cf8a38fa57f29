use Rattle.std.proofs.Common.{rules}
use Rattle.epochs.proofs.epochs.Epochs.reserve.Goals as goal

pub returns-clause-room : goal.returns-clause-room
returns-clause-room c = search rules
