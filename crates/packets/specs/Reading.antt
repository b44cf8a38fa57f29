-- What a header has, and what a payload says.
use Rattle.std.specs.Prelude.{ℕ, ◌/◌, ◌%◌, ◌==◌, Bool, ◌&&◌, nat_lt, if◌then◌else◌, List, drop, Option, Some, None, Result, Ok, Err}
use Rattle.blocks.specs.declared.command.Command.{Command}
use Rattle.blocks.specs.declared.command.Command.TheVariants as command
use Rattle.blocks.specs.declared.refusal.Refusal.{Refusal}
use Rattle.blocks.specs.declared.refusal.Refusal.TheVariants.{BadMagic, BadCommand, BadLength, BadField}
use Rattle.blocks.specs.declared.settings.Protocol.TheVariants.{A, B, C}
use Rattle.packets.specs.declared.header.Header.{Header}
use Rattle.packets.specs.declared.packet.Acknowledgement.{Acknowledgement}
use Rattle.packets.specs.declared.packet.Packet.{Packet}
use Rattle.packets.specs.declared.packet.Packet.TheVariants as packet
use Rattle.packets.specs.Numbers.{number_in}
use Rattle.packets.specs.Table.{magic, command_at, is_length, is_blocks}

-- the header of a command with this length, if there is such a command and its payload may be so long
abbrev pub row_at : Option Command → ℕ → Result Header Refusal
row_at None len = Err BadCommand
row_at (Some command) len = if is_length command len then Ok (record { command = command; len = len }) else Err BadLength

-- the header that bytes begin with, or its first fault: magic number, then command, then length
unfoldable pub header_at : List ℕ → Result Header Refusal
header_at bytes =
    if number_in 2 0 bytes == magic then row_at (command_at (number_in 2 2 bytes)) (number_in 4 4 bytes) else Err BadMagic

-- a packet, if its fields are valid
abbrev pub checked : Bool → Packet → Result Packet Refusal
checked fields p = if fields then Ok p else Err BadField

-- the protocol of a number, or 23
abbrev pub protocol_at : ℕ → Result Packet Refusal
protocol_at number =
    if number == 1 then Ok (packet.Protocol A) else
    if number == 2 then Ok (packet.Protocol B) else
    if number == 3 then Ok (packet.Protocol C) else Err BadField

-- the four words, in their order
abbrev pub uuids_at : List ℕ → Packet
uuids_at bytes = packet.Uuids (record {
  current = number_in 8 0 bytes;
  bitmap = number_in 8 8 bytes;
  first_historical = number_in 8 16 bytes;
  second_historical = number_in 8 24 bytes;
})

-- a sector that is a block's first, a write number, a place, flags that are zero, and the blocks
unfoldable pub data_at : List ℕ → Result Packet Refusal
data_at bytes =
    checked ((number_in 8 0 bytes % 8 == 0) && nat_lt 0 (number_in 8 8 bytes) && (number_in 4 20 bytes == 0))
    (packet.Data (record { 0 = number_in 8 0 bytes / 8 }) (number_in 8 8 bytes) (number_in 4 16 bytes) (drop 24 bytes))

-- the same of a resync block, whose number is zero
unfoldable pub rs_data_at : List ℕ → Result Packet Refusal
rs_data_at bytes =
    checked ((number_in 8 0 bytes % 8 == 0) && (number_in 8 8 bytes == 0) && (number_in 4 20 bytes == 0))
    (packet.RsDataReply (record { 0 = number_in 8 0 bytes / 8 }) (number_in 4 16 bytes) (drop 24 bytes))

-- a number, and a word that is zero
unfoldable pub barrier_at : List ℕ → Result Packet Refusal
barrier_at bytes = checked (number_in 4 4 bytes == 0) (packet.Barrier (number_in 4 0 bytes))

-- what an acknowledgement names: a sector, a number, a size in bytes and a place
unfoldable pub acknowledgement_at : List ℕ → Acknowledgement
acknowledgement_at bytes = record {
  first = record { 0 = number_in 8 0 bytes / 8 };
  number = number_in 8 8 bytes;
  count = number_in 4 16 bytes / 4096;
  place = number_in 4 20 bytes;
}

-- the acknowledgement may name a write: the sector is a block's first, the number is not zero, and the size is of whole
-- blocks
unfoldable pub names_write : List ℕ → Bool
names_write bytes = (number_in 8 0 bytes % 8 == 0) && nat_lt 0 (number_in 8 8 bytes) && is_blocks (number_in 4 16 bytes)

-- the acknowledgement may name a resync block: the sector is a block's first, the number is zero, and the size is of
-- one block
unfoldable pub names_resync : List ℕ → Bool
names_resync bytes = (number_in 8 0 bytes % 8 == 0) && (number_in 8 8 bytes == 0) && (number_in 4 16 bytes == 4096)

-- what the payload of each command says
unfoldable pub payload_at : Command → List ℕ → Result Packet Refusal
payload_at command.Protocol bytes = protocol_at (number_in 4 0 bytes)
payload_at command.Sizes bytes = Ok (packet.Sizes (number_in 8 0 bytes))
payload_at command.Uuids bytes = Ok (uuids_at bytes)
payload_at command.Data bytes = data_at bytes
payload_at command.RsDataReply bytes = rs_data_at bytes
payload_at command.Barrier bytes = barrier_at bytes
payload_at command.SyncUuid bytes = Ok (packet.SyncUuid (number_in 8 0 bytes))
payload_at command.RecvAck bytes = checked (names_write bytes) (packet.RecvAck (acknowledgement_at bytes))
payload_at command.WriteAck bytes = checked (names_write bytes) (packet.WriteAck (acknowledgement_at bytes))
payload_at command.RsWriteAck bytes = checked (names_resync bytes) (packet.RsWriteAck (acknowledgement_at bytes))
payload_at command.BarrierAck bytes = Ok (packet.BarrierAck (number_in 4 0 bytes) (number_in 4 4 bytes))
