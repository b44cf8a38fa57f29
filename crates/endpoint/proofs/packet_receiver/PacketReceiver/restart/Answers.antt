use Rattle.std.proofs.Common.{rules}
use Rattle.endpoint.proofs.packet_receiver.PacketReceiver.restart.Goals as goal

pub invariant_of-self : goal.invariant_of-self
invariant_of-self g c = search rules
