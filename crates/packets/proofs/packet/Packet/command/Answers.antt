use Rattle.std.proofs.Common.{rules}
use Rattle.packets.proofs.packet.Packet.command.Goals as goal

pub returns-in-Barrier : goal.returns-in-Barrier
returns-in-Barrier c = search rules
