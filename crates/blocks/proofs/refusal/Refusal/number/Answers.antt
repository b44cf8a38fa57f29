use Rattle.std.proofs.Common.{rules}
use Rattle.blocks.proofs.refusal.Refusal.number.Goals as goal

pub returns-in-EpochOpen : goal.returns-in-EpochOpen
returns-in-EpochOpen c = search rules
