use Rattle.std.proofs.Common.{rules}
use Rattle.packets.proofs.decoder.Decoder.take.Goals as goal

pub invariant_of-self-2 : goal.invariant_of-self-2
invariant_of-self-2 c = search rules

pub returns-clause-given : goal.returns-clause-given
returns-clause-given c = search rules

pub returns-clause-part : goal.returns-clause-part
returns-clause-part c = search rules
