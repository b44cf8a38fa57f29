use Rattle.std.proofs.Common.{rules}
use Rattle.secondary_core.proofs.outbox.Outbox.reserve.Goals as goal

pub returns-clause-room : goal.returns-clause-room
returns-clause-room c = search rules
