-- How one whole frame of a link is read.
use Rattle.std.specs.Prelude.{ℕ, ◌≡◌, ◌≢◌, ◌+◌, ◌<◌, ◌≤◌, ◌⊎◌, ◌==◌, Bool, true, false, ◌&&◌, nat_le, if◌then◌else◌, List, length, drop, Option, Some, None}
use Rattle.std.specs.Prelude.{Result, Ok, Err}
use Rattle.blocks.specs.declared.command.Command.{Command}
use Rattle.blocks.specs.declared.refusal.Refusal.{Refusal}
use Rattle.blocks.specs.declared.refusal.Refusal.TheVariants.{BadMagic, BadCommand, BadLength, BadField}
use Rattle.packets.specs.declared.header.Header.{Header}
use Rattle.packets.specs.declared.packet.Packet.{Packet}
use Rattle.packets.specs.Numbers.{number_in}
use Rattle.packets.specs.Table.{number_of}
use Rattle.packets.specs.Spelling.{IsSpellable, Spells}
use Rattle.packets.specs.Reading.{header_at, payload_at}

-- no packet is spelled so
abbrev pub IsNoSpelling : List ℕ → Type 0
IsNoSpelling bytes = (p : Packet) → IsSpellable p → Spells p bytes → ⊥

-- the first fault of a frame that has its 8 bytes of header: the header's own, then a payload whose length is not the
-- header's, and last fields that no packet has
abbrev pub IsFaultAfter : Result Header Refusal → List ℕ → Refusal → Type 0
IsFaultAfter (Err fault) frame refusal = refusal ≡ fault
IsFaultAfter (Ok header) frame refusal =
    ((length frame ≢ 8 + header.len) × (refusal ≡ BadLength))
    ⊎ ((length frame ≡ 8 + header.len) × (refusal ≡ BadField) × IsNoSpelling frame)

-- the first fault of a frame
abbrev pub IsFrameFault : List ℕ → Refusal → Type 0
IsFrameFault frame refusal =
    ((length frame < 8) × (refusal ≡ BadLength)) ⊎ ((8 ≤ length frame) × IsFaultAfter (header_at frame) frame refusal)

-- a fault of a frame: 20 to 23
abbrev pub is_fault : Refusal → Bool
is_fault BadMagic = true
is_fault BadCommand = true
is_fault BadLength = true
is_fault BadField = true
is_fault _ = false

-- the result of reading a frame: the packet that it spells, or its first fault
abbrev pub Answers : List ℕ → Result Packet Refusal → Type 0
Answers frame (Ok p) = IsSpellable p × Spells p frame
Answers frame (Err refusal) = IsFrameFault frame refusal

-- the frame's header has the number of this command
abbrev pub is_named : Command → List ℕ → Bool
is_named command frame = nat_le 4 (length frame) && (number_in 2 2 frame == number_of command)

-- the result of a frame whose header was judged so: its payload's, if that is as long as the header says
abbrev pub read_after : Result Header Refusal → List ℕ → Result Packet Refusal
read_after (Err refusal) frame = Err refusal
read_after (Ok header) frame = if length frame == 8 + header.len then payload_at header.command (drop 8 frame) else Err BadLength

-- what a frame is read as
unfoldable pub frame_read : List ℕ → Result Packet Refusal
frame_read frame = if nat_le 8 (length frame) then read_after (header_at frame) frame else Err BadLength

-- whether the frame is of the command that a hello expects; with no hello, each frame is
abbrev pub is_expected : Option Command → List ℕ → Bool
is_expected None frame = true
is_expected (Some command) frame = is_named command frame

-- that a frame is not of the command that a hello expects (21) comes before a fault of its fields (23)
abbrev pub fault_in_hello : Bool → Refusal → Refusal
fault_in_hello false BadField = BadCommand
fault_in_hello expected refusal = refusal

-- the result of reading a frame, while a hello expects one of this command or there is no hello
abbrev pub in_hello : Option Command → List ℕ → Result Packet Refusal → Result Packet Refusal
in_hello hello frame (Ok p) = Ok p
in_hello hello frame (Err refusal) = Err (fault_in_hello (is_expected hello frame) refusal)
