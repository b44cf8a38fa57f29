use Rattle.std.proofs.Common.{rules}
use Rattle.blocks.proofs.refusal.Refusal.closes_end.Goals as goal

pub returns-in_default : goal.returns-in_default
returns-in_default c = search rules

pub returns-in-BadMagic-7 : goal.returns-in-BadMagic-7
returns-in-BadMagic-7 c = search rules
