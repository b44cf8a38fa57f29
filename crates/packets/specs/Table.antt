-- The table of the frames: a command, its number in a header, and how long its payload may be. The commands
-- and their numbers are those of DRBD 8.4's `drbd_protocol.h`; the lengths are this project's.
use Rattle.std.specs.Prelude.{ℕ, ◌-◌, ◌%◌, ◌==◌, Bool, true, false, ◌&&◌, nat_lt, if◌then◌else◌, Option, Some, None}
use Rattle.blocks.specs.declared.command.Command.{Command}
use Rattle.blocks.specs.declared.command.Command.TheVariants as command
use Rattle.packets.specs.declared.packet.Packet.{Packet}
use Rattle.packets.specs.declared.packet.Packet.TheVariants as packet

-- the magic number, 835A
abbrev pub magic : ℕ
magic = 33626

-- the number of each command
abbrev pub number_of : Command → ℕ
number_of command.Data = 0
number_of command.RsDataReply = 2
number_of command.Barrier = 3
number_of command.Protocol = 11
number_of command.Uuids = 12
number_of command.Sizes = 13
number_of command.SyncUuid = 15
number_of command.RecvAck = 21
number_of command.WriteAck = 22
number_of command.RsWriteAck = 23
number_of command.BarrierAck = 28

-- the command with a number
abbrev pub command_at : ℕ → Option Command
command_at number =
    if number == 0 then Some command.Data else
    if number == 2 then Some command.RsDataReply else
    if number == 3 then Some command.Barrier else
    if number == 11 then Some command.Protocol else
    if number == 12 then Some command.Uuids else
    if number == 13 then Some command.Sizes else
    if number == 15 then Some command.SyncUuid else
    if number == 21 then Some command.RecvAck else
    if number == 22 then Some command.WriteAck else
    if number == 23 then Some command.RsWriteAck else
    if number == 28 then Some command.BarrierAck else None

-- 1 to 32 whole blocks of 4096 bytes
abbrev pub is_blocks : ℕ → Bool
is_blocks len = nat_lt 0 len && nat_lt len 131073 && (len % 4096 == 0)

-- whether the payload of a command may have `len` bytes
abbrev pub is_length : Command → ℕ → Bool
is_length command.Data len = nat_lt 24 len && is_blocks (len - 24)
is_length command.RsDataReply len = len == 4120
is_length command.Barrier len = len == 8
is_length command.Protocol len = len == 4
is_length command.Uuids len = len == 32
is_length command.Sizes len = len == 8
is_length command.SyncUuid len = len == 8
is_length command.RecvAck len = len == 24
is_length command.WriteAck len = len == 24
is_length command.RsWriteAck len = len == 24
is_length command.BarrierAck len = len == 8

-- the command of a packet
abbrev pub command_of : Packet → Command
command_of (packet.Protocol _) = command.Protocol
command_of (packet.Sizes _) = command.Sizes
command_of (packet.Uuids _) = command.Uuids
command_of (packet.Data _ _ _ _) = command.Data
command_of (packet.RsDataReply _ _ _) = command.RsDataReply
command_of (packet.Barrier _) = command.Barrier
command_of (packet.SyncUuid _) = command.SyncUuid
command_of (packet.RecvAck _) = command.RecvAck
command_of (packet.WriteAck _) = command.WriteAck
command_of (packet.RsWriteAck _) = command.RsWriteAck
command_of (packet.BarrierAck _ _) = command.BarrierAck

-- whether a packet carries blocks: the others are spelled in at most 40 bytes
abbrev pub has_blocks : Packet → Bool
has_blocks (packet.Data _ _ _ _) = true
has_blocks (packet.RsDataReply _ _ _) = true
has_blocks _ = false
