-- How long each payload is.
use Rattle.std.proofs.Common.{◌≡◌, ℕ, ◌+◌, length, arith}
use Rattle.std.proofs.lemmas.List.{length-append}
use Rattle.packets.specs.declared.packet.Packet.{Packet}
use Rattle.packets.specs.declared.packet.Packet.TheVariants as packet
use Rattle.packets.specs.declared.packet.Acknowledgement.{Acknowledgement}
use Rattle.packets.specs.Spelling.{payload, protocol_number, acknowledgement_bytes}
use Rattle.packets.proofs.Widths.{number_bytes_length}

abbrev pub payload_bytes : Packet → ℕ
payload_bytes (packet.Protocol _) = 4
payload_bytes (packet.Sizes _) = 8
payload_bytes (packet.Uuids _) = 32
payload_bytes (packet.Data _ _ _ contents) = 24 + length contents
payload_bytes (packet.RsDataReply _ _ contents) = 24 + length contents
payload_bytes (packet.Barrier _) = 8
payload_bytes (packet.SyncUuid _) = 8
payload_bytes (packet.RecvAck _) = 24
payload_bytes (packet.WriteAck _) = 24
payload_bytes (packet.RsWriteAck _) = 24
payload_bytes (packet.BarrierAck _ _) = 8

acknowledgement_length : (ack : Acknowledgement) → length (acknowledgement_bytes ack) ≡ 24
acknowledgement_length ack = simp (length-append, number_bytes_length) (omega arith)

pub payload_length : (p : Packet) → length (payload p) ≡ payload_bytes p
payload_length (packet.Protocol protocol) = number_bytes_length 4 (protocol_number protocol)
payload_length (packet.Sizes blocks) = number_bytes_length 8 blocks
payload_length (packet.Uuids t) = simp (length-append, number_bytes_length) (omega arith)
payload_length (packet.Data first number place contents) = simp (length-append, number_bytes_length) (omega arith)
payload_length (packet.RsDataReply first place contents) = simp (length-append, number_bytes_length) (omega arith)
payload_length (packet.Barrier number) = simp (length-append, number_bytes_length) (omega arith)
payload_length (packet.SyncUuid word) = number_bytes_length 8 word
payload_length (packet.RecvAck ack) = acknowledgement_length ack
payload_length (packet.WriteAck ack) = acknowledgement_length ack
payload_length (packet.RsWriteAck ack) = acknowledgement_length ack
payload_length (packet.BarrierAck number size) = simp (length-append, number_bytes_length) (omega arith)
