-- The front of a packet's frame, and then its blocks, are the packet's spelling.
use Rattle.std.proofs.Common.{◌≡◌, true, false, ◌++◌, refl, append_assoc}
use Rattle.packets.specs.declared.packet.Packet.{Packet}
use Rattle.packets.specs.declared.packet.Packet.TheVariants as packet
use Rattle.packets.specs.Table.{has_blocks}
use Rattle.packets.specs.Spelling.{spelling}
use Rattle.packets.specs.Written.{blocks_in, front}

-- the numbers and the blocks are the payload
pub front_whole : (p : Packet) → has_blocks p ≡ false → front p ≡ spelling p
unfolding front spelling
front_whole (packet.Protocol protocol) e = refl
front_whole (packet.Sizes blocks) e = refl
front_whole (packet.Uuids t) e = refl
front_whole (packet.Data first number place contents) e = absurd cc
front_whole (packet.RsDataReply first place contents) e = absurd cc
front_whole (packet.Barrier number) e = refl
front_whole (packet.SyncUuid word) e = refl
front_whole (packet.RecvAck ack) e = refl
front_whole (packet.WriteAck ack) e = refl
front_whole (packet.RsWriteAck ack) e = refl
front_whole (packet.BarrierAck number size) e = refl

pub front_blocks : (p : Packet) → has_blocks p ≡ true → front p ++ blocks_in p ≡ spelling p
unfolding front spelling
front_blocks (packet.Protocol protocol) e = absurd cc
front_blocks (packet.Sizes blocks) e = absurd cc
front_blocks (packet.Uuids t) e = absurd cc
front_blocks (packet.Data first number place contents) e = append_assoc _ _ contents
front_blocks (packet.RsDataReply first place contents) e = append_assoc _ _ contents
front_blocks (packet.Barrier number) e = absurd cc
front_blocks (packet.SyncUuid word) e = absurd cc
front_blocks (packet.RecvAck ack) e = absurd cc
front_blocks (packet.WriteAck ack) e = absurd cc
front_blocks (packet.RsWriteAck ack) e = absurd cc
front_blocks (packet.BarrierAck number size) e = absurd cc
