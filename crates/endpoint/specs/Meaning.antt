-- What the packets of the bytes mean: packets of the model.
use Rattle.std.specs.Prelude.{ℕ, List, [], ◌∷◌, Result, Ok, Err}
use Rattle.std.specs.List.{flat_map}
use Rattle.blocks.specs.Contents.{blocks_of}
use Rattle.blocks.specs.declared.refusal.Refusal.{Refusal}
use Rattle.packets.specs.declared.packet.Acknowledgement.{Acknowledgement}
use Rattle.packets.specs.declared.packet.Packet.{Packet}
use Rattle.packets.specs.declared.packet.Packet.TheVariants as packet
use Rattle.packets.specs.Spelling.{IsSpellable, Spells}
use Rattle.packets.specs.Frames.{frame_read}
use Rattle.model.specs.Frames.{DataFrame, RsDataReplyFrame, BarrierFrame, ProtocolFrame, UuidsFrame, SizesFrame, SyncUuidFrame, RecvAckFrame, WriteAckFrame}
use Rattle.model.specs.Frames.{RsWriteAckFrame, BarrierAckFrame, Received}
use Rattle.model.specs.Frames as frames

-- what an acknowledgement names, its first block as a number
abbrev pub named : Acknowledgement → frames.Acknowledged
named ack = record { first = ack.first.0; number = ack.number; count = ack.count; place = ack.place }

-- a packet; the bytes of a write become its blocks of 4096 bytes
abbrev pub meaning : Packet → frames.Packet
meaning (packet.Protocol protocol) = ProtocolFrame protocol
meaning (packet.Sizes blocks) = SizesFrame blocks
meaning (packet.Uuids tuple) = UuidsFrame tuple
meaning (packet.Data first number place contents) = DataFrame (record { number = number; first = first.0; contents = blocks_of 4096 contents }) place
meaning (packet.RsDataReply first place contents) = RsDataReplyFrame first.0 contents place
meaning (packet.Barrier number) = BarrierFrame number
meaning (packet.SyncUuid word) = SyncUuidFrame word
meaning (packet.RecvAck ack) = RecvAckFrame (named ack)
meaning (packet.WriteAck ack) = WriteAckFrame (named ack)
meaning (packet.RsWriteAck ack) = RsWriteAckFrame (named ack)
meaning (packet.BarrierAck number size) = BarrierAckFrame number size

-- what was read: a packet, or the fault in its place
abbrev pub received : Result Packet Refusal → Received
received (Ok p) = Ok (meaning p)
received (Err fault) = Err fault

-- the frame is the spelling of a packet
abbrev pub IsSpelled : List ℕ → Type 0
IsSpelled frame = (p : Packet) × IsSpellable p × Spells p frame

-- the packet that was read, if one was
abbrev pub packet_read : Result Packet Refusal → List frames.Packet
packet_read (Ok p) = meaning p ∷ []
packet_read (Err fault) = []

-- the packet that a frame spells
abbrev pub meant : List ℕ → List frames.Packet
meant frame = packet_read (frame_read frame)

-- the packets that frames spell
abbrev pub meant_in : List (List ℕ) → List frames.Packet
meant_in sent = flat_map meant sent
