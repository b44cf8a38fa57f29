-- The fields of a due acknowledgement as packets.
use Rattle.std.specs.Prelude.{ℕ, List, []}
use Rattle.blocks.specs.declared.settings.Protocol.{Protocol}
use Rattle.packets.specs.declared.packet.Packet.{Packet}
use Rattle.packets.specs.declared.packet.Packet.TheVariants as packet
use Rattle.packets.specs.Spelling.{IsSpellable}
use Rattle.endpoint.specs.Meaning.{meaning}
use Rattle.model.specs.Frames as frames
use Rattle.model.specs.Stream.{StreamItem, WriteItem}
use Rattle.secondary_protocol.specs.Core.{receipt}
use Rattle.secondary_core.specs.declared.answer.AckKind.{AckKind}
use Rattle.secondary_core.specs.declared.answer.AckKind.TheVariants as kind
use Rattle.secondary_core.specs.declared.answer.DueAck.TheInside.{Inside}

-- the packet that says it
abbrev pub packet_of : AckKind → Packet
packet_of (kind.Received ack) = packet.RecvAck ack
packet_of (kind.Written ack) = packet.WriteAck ack
packet_of (kind.Resynced ack) = packet.RsWriteAck ack
packet_of (kind.Whole epoch writes) = packet.BarrierAck epoch writes

-- what the packet means
abbrev pub answer_of : Inside → frames.Packet
answer_of a = meaning (packet_of a.kind)

-- the packet has a spelling
abbrev pub IsAnswer : Inside → Type 0
IsAnswer a = IsSpellable (packet_of a.kind)

-- what is acknowledged when an item with blocks is taken: a write under B
abbrev pub receipt_of : Protocol → ℕ → StreamItem → List frames.Packet
receipt_of protocol place (WriteItem write) = receipt protocol place (WriteItem write)
receipt_of protocol place item = []
