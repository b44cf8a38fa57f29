use Rattle.std.proofs.Common.{rules}
use Rattle.primary_core.proofs.state.PrimaryCore.is_under_way.Goals as goal

pub returns-then-ack-eq1 : goal.returns-then-ack-eq1
returns-then-ack-eq1 c = search rules
