-- The grammar: each packet and its one spelling. A frame is a header and a payload, whose fields follow one another.
-- The fields of DATA and RS_DATA_REPLY, of BARRIER, of RECV_ACK, WRITE_ACK and RS_WRITE_ACK and of BARRIER_ACK are
-- those of DRBD's `p_data`, `p_barrier`, `p_block_ack` and `p_barrier_ack` (`drbd_protocol.h`); those of PROTOCOL,
-- SIZES, UUIDS and SYNC_UUID are this project's. A sector has 512 bytes, so a block has 8 of them.
use Rattle.std.specs.Prelude.{ℕ, ◌≡◌, ◌*◌, ◌/◌, ◌<◌, ◌≤◌, ◌^◌, List, ◌++◌, length}
use Rattle.blocks.specs.declared.settings.Protocol.{Protocol}
use Rattle.blocks.specs.declared.settings.Protocol.TheVariants.{A, B, C}
use Rattle.packets.specs.declared.packet.Acknowledgement.{Acknowledgement}
use Rattle.packets.specs.declared.packet.Packet.{Packet}
use Rattle.packets.specs.declared.packet.Packet.TheVariants as packet
use Rattle.packets.specs.Numbers.{number_bytes}
use Rattle.packets.specs.Table.{magic, number_of, command_of}

-- the number of a replication protocol
abbrev pub protocol_number : Protocol → ℕ
protocol_number A = 1
protocol_number B = 2
protocol_number C = 3

-- the fields of an acknowledgement, in their order: it names a sector, a number, a size in bytes and a place
abbrev pub acknowledgement_bytes : Acknowledgement → List ℕ
acknowledgement_bytes ack = number_bytes 8 (8 * ack.first.0) ++ number_bytes 8 ack.number ++ number_bytes 4 (4096 * ack.count) ++ number_bytes 4 ack.place

-- the fields before the blocks of a write or a resync block: a sector, a number, a place, and flags that are zero
abbrev pub data_numbers : ℕ → ℕ → ℕ → List ℕ
data_numbers first number place = number_bytes 8 (8 * first) ++ number_bytes 8 number ++ number_bytes 4 place ++ number_bytes 4 0

-- the fields of each packet, in their order; a resync block and its acknowledgement have the number 0
abbrev pub payload : Packet → List ℕ
payload (packet.Protocol protocol) = number_bytes 4 (protocol_number protocol)
payload (packet.Sizes blocks) = number_bytes 8 blocks
payload (packet.Uuids t) = number_bytes 8 t.current ++ number_bytes 8 t.bitmap ++ number_bytes 8 t.first_historical ++ number_bytes 8 t.second_historical
payload (packet.Data first number place contents) = data_numbers first.0 number place ++ contents
payload (packet.RsDataReply first place contents) = data_numbers first.0 0 place ++ contents
payload (packet.Barrier number) = number_bytes 4 number ++ number_bytes 4 0
payload (packet.SyncUuid word) = number_bytes 8 word
payload (packet.RecvAck ack) = acknowledgement_bytes ack
payload (packet.WriteAck ack) = acknowledgement_bytes ack
payload (packet.RsWriteAck ack) = acknowledgement_bytes ack
payload (packet.BarrierAck number size) = number_bytes 4 number ++ number_bytes 4 size

-- magic number, command number and payload length, and then the payload
unfoldable pub spelling : Packet → List ℕ
spelling p = number_bytes 2 magic ++ number_bytes 2 (number_of (command_of p)) ++ number_bytes 4 (length (payload p)) ++ payload p

-- an acknowledgement of a write: the first block has a sector number, the number is not 0, there are 1 to 32 blocks
abbrev pub NamesWrite : Acknowledgement → Type 0
NamesWrite ack = (8 * ack.first.0 < 2 ^ 64) × (0 < ack.number) × (0 < ack.count) × (ack.count ≤ 32)

-- an acknowledgement of a resync block: its number is 0, and there is one block
abbrev pub NamesResync : Acknowledgement → Type 0
NamesResync ack = (8 * ack.first.0 < 2 ^ 64) × (ack.number ≡ 0) × (ack.count ≡ 1)

-- which packets have a spelling: the first block has a sector number, a write's number is not 0, and there are 1 to 32
-- whole blocks, or one if it is a resync block
abbrev pub IsSpellable : Packet → Type 0
IsSpellable (packet.Data first number place contents) = (8 * first.0 < 2 ^ 64) × (0 < number) × (0 < length contents) × (length contents ≤ 131072)
    × (4096 * (length contents / 4096) ≡ length contents)
IsSpellable (packet.RsDataReply first place contents) = (8 * first.0 < 2 ^ 64) × (length contents ≡ 4096)
IsSpellable (packet.RecvAck ack) = NamesWrite ack
IsSpellable (packet.WriteAck ack) = NamesWrite ack
IsSpellable (packet.RsWriteAck ack) = NamesResync ack
IsSpellable _ = Unit {0}

-- the numbers of an acknowledgement fit their fields
abbrev pub FitsAcknowledgement : Acknowledgement → Type 0
FitsAcknowledgement ack = (ack.number < 2 ^ 64) × (ack.place < 2 ^ 32)

-- the numbers of a packet fit their fields
abbrev pub FitsFields : Packet → Type 0
FitsFields (packet.Protocol protocol) = Unit {0}
FitsFields (packet.Sizes blocks) = blocks < 2 ^ 64
FitsFields (packet.Uuids t) = (t.current < 2 ^ 64) × (t.bitmap < 2 ^ 64) × (t.first_historical < 2 ^ 64) × (t.second_historical < 2 ^ 64)
FitsFields (packet.Data first number place contents) = (number < 2 ^ 64) × (place < 2 ^ 32)
FitsFields (packet.RsDataReply first place contents) = place < 2 ^ 32
FitsFields (packet.Barrier number) = number < 2 ^ 32
FitsFields (packet.SyncUuid word) = word < 2 ^ 64
FitsFields (packet.RecvAck ack) = FitsAcknowledgement ack
FitsFields (packet.WriteAck ack) = FitsAcknowledgement ack
FitsFields (packet.RsWriteAck ack) = FitsAcknowledgement ack
FitsFields (packet.BarrierAck number size) = (number < 2 ^ 32) × (size < 2 ^ 32)

-- the bytes are the packet's spelling
pub record Spells (p : Packet) (bytes : List ℕ) : Type 0 where
  pub fields : FitsFields p
  pub bytes_are : bytes ≡ spelling p
