-- What the parts of a frame's reading give: its header, whether a hello expects it, and what an acknowledgement names.
use Rattle.std.specs.Prelude.{ℕ, ◌≡◌, ◌+◌, ◌<◌, ◌==◌, Bool, true, if◌then◌else◌, List, length, slice_index, Option, Some, None, Result, Ok, Err}
use Rattle.blocks.specs.declared.command.Command.{Command}
use Rattle.blocks.specs.declared.refusal.Refusal.{Refusal}
use Rattle.blocks.specs.declared.refusal.Refusal.TheVariants.{BadField}
use Rattle.packets.specs.declared.header.Header.{Header}
use Rattle.packets.specs.declared.packet.Acknowledgement.{Acknowledgement}
use Rattle.packets.specs.Table.{number_of}
use Rattle.packets.specs.Reading.{header_at}

-- the frame has this header, and is as long as it says
pub record IsHeaded (header : Header) (frame : List ℕ) : Type 0 where
  pub judged : header_at frame ≡ Ok header
  pub whole : length frame ≡ 8 + header.len
  pub bytes : (i : ℕ) → slice_index frame i < 256

-- whether a frame of this command is what a hello expects; with no hello, each frame is
abbrev pub is_awaited : Option Command → Command → Bool
is_awaited None command = true
is_awaited (Some expected) command = number_of command == number_of expected

-- what an acknowledgement names, if its fields are valid
abbrev pub named : Bool → Acknowledgement → Result Acknowledgement Refusal
named fields ack = if fields then Ok ack else Err BadField
