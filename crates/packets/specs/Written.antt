-- How a frame is put together: its front, and then its blocks if it has some.
use Rattle.std.specs.Prelude.{ℕ, List, [], ◌++◌, length}
use Rattle.packets.specs.declared.packet.Packet.{Packet}
use Rattle.packets.specs.declared.packet.Packet.TheVariants as packet
use Rattle.packets.specs.Numbers.{number_bytes}
use Rattle.packets.specs.Table.{magic, number_of, command_of}
use Rattle.packets.specs.Spelling.{payload, data_numbers}

-- the fields of a packet that are numbers
abbrev pub numbers : Packet → List ℕ
numbers (packet.Data first number place contents) = data_numbers first.0 number place
numbers (packet.RsDataReply first place contents) = data_numbers first.0 0 place
numbers p = payload p

-- the blocks of a packet that has some
abbrev pub blocks_in : Packet → List ℕ
blocks_in (packet.Data first number place contents) = contents
blocks_in (packet.RsDataReply first place contents) = contents
blocks_in _ = []

-- the header of a packet's frame, and the numbers of its payload
unfoldable pub front : Packet → List ℕ
front p = number_bytes 2 magic ++ number_bytes 2 (number_of (command_of p)) ++ number_bytes 4 (length (payload p)) ++ numbers p
