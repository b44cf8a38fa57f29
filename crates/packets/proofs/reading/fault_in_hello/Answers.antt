use Rattle.std.proofs.Common.{rules}
use Rattle.packets.proofs.reading.fault_in_hello.Goals as goal

pub returns-in-BadField : goal.returns-in-BadField
returns-in-BadField c = search rules

pub returns-in_default : goal.returns-in_default
returns-in_default c = search rules
