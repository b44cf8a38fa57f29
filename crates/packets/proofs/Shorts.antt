-- A packet without blocks is spelled in at most 40 bytes.
use Rattle.std.proofs.Common.{◌≡◌, ◌≤◌, ◌+◌, false, ℕ, List, length, ◌∙◌, ap, arith}
use Rattle.std.proofs.lemmas.List.{length-append}
use Rattle.packets.specs.declared.packet.Packet.{Packet}
use Rattle.packets.specs.declared.packet.Packet.TheVariants as packet
use Rattle.packets.specs.Table.{has_blocks}
use Rattle.packets.specs.Spelling.{Spells, payload, spelling}
use Rattle.packets.proofs.Widths.{number_bytes_length}
use Rattle.packets.proofs.Lengths.{payload_bytes, payload_length}

-- a header has eight bytes
spelling_length : (p : Packet) → length (spelling p) ≡ 8 + length (payload p)
unfolding spelling
spelling_length p = simp (length-append, number_bytes_length) (omega arith)

few : (p : Packet) → has_blocks p ≡ false → payload_bytes p ≤ 32
few (packet.Protocol protocol) e = omega arith
few (packet.Sizes blocks) e = omega arith
few (packet.Uuids t) e = omega arith
few (packet.Data first number place contents) e = absurd cc
few (packet.RsDataReply first place contents) e = absurd cc
few (packet.Barrier number) e = omega arith
few (packet.SyncUuid word) e = omega arith
few (packet.RecvAck ack) e = omega arith
few (packet.WriteAck ack) e = omega arith
few (packet.RsWriteAck ack) e = omega arith
few (packet.BarrierAck number size) e = omega arith

pub spelled_short : (p : Packet) (frame : List ℕ) → Spells p frame → has_blocks p ≡ false → length frame ≤ 40
spelled_short p frame spells none =
    let long : length frame ≡ 8 + length (payload p) = ap length spells.bytes_are ∙ spelling_length p in
    let size = payload_length p in
    let most = few p none in
    omega arith
