use Rattle.std.proofs.Common.{rules}
use Rattle.primary_core.proofs.state.PrimaryCore.judge.Goals as goal

pub returns : goal.returns
returns c = search rules
