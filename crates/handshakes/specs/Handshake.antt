-- Both hellos of a connection, at one of its nodes.
use Rattle.std.specs.Prelude.{ℕ, zero, suc, ◌==◌, Option, Some, None, Result, Ok, Err, if◌then◌else◌}
use Rattle.blocks.specs.declared.command.Command.{Command}
use Rattle.blocks.specs.declared.command.Command.TheVariants as command
use Rattle.blocks.specs.declared.refusal.Refusal.{Refusal}
use Rattle.blocks.specs.declared.refusal.Refusal.TheVariants.{BadCommand, OtherProtocol, OtherSize}
use Rattle.blocks.specs.declared.settings.Settings.{Settings}
use Rattle.blocks.specs.declared.tuple.Tuple.{Tuple}
use Rattle.packets.specs.declared.packet.Packet.{Packet}
use Rattle.packets.specs.declared.packet.Packet.TheVariants as packet
use Rattle.model.specs.Acknowledgements.{same_protocol}

-- The identifiers that the own hello names, how many of its frames were sent, and how many of the peer's were taken.
pub record HandshakeState : Type 0 where
  pub own : Tuple
  pub hello_sent : ℕ
  pub hello_received : ℕ

-- no frame of either hello has gone
abbrev pub begun : Tuple → HandshakeState
begun own = record { own = own; hello_sent = 0; hello_received = 0 }

-- the frame of the own hello that is sent after this number of others
abbrev pub hello_frame : ℕ → Settings → Tuple → Option Packet
hello_frame zero settings own = Some (packet.Protocol settings.protocol)
hello_frame (suc zero) settings own = Some (packet.Sizes settings.blocks)
hello_frame (suc (suc zero)) settings own = Some (packet.Uuids own)
hello_frame (suc (suc (suc n))) settings own = None

-- The command of a frame that comes after this number of frames of the peer's hello, or why it is refused.
abbrev pub judged : ℕ → Packet → Settings → Result Command Refusal
judged zero (packet.Protocol asked) settings = if same_protocol asked settings.protocol then Ok command.Protocol else Err OtherProtocol
judged (suc zero) (packet.Sizes blocks) settings = if blocks == settings.blocks then Ok command.Sizes else Err OtherSize
judged (suc (suc n)) (packet.Uuids tuple) settings = Ok command.Uuids
judged n p settings = Err BadCommand
