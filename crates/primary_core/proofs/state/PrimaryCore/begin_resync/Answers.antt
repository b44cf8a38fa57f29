use Rattle.std.proofs.Common.{rules}
use Rattle.primary_core.proofs.state.PrimaryCore.begin_resync.Goals as goal

pub returns : goal.returns
returns c = search rules
