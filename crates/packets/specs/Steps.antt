-- What the parts of a decoder's step give.
use Rattle.std.specs.Prelude.{ℕ, ◌≡◌, ◌<◌, ◌≤◌, ◌⊎◌, List, [], ◌++◌, length, take, if◌then◌else◌, Option, Some, None, Result, Ok, Err}
use Rattle.blocks.specs.declared.refusal.Refusal.{Refusal}
use Rattle.blocks.specs.declared.refusal.Refusal.TheVariants.{NoMemory}
use Rattle.packets.specs.declared.header.Header.{Header}
use Rattle.packets.specs.declared.decoder.Left.{Left}
use Rattle.packets.specs.declared.decoder.Next.{Next}
use Rattle.packets.specs.declared.decoder.Next.TheVariants.{Whole, Part}
use Rattle.packets.specs.declared.packet.Packet.{Packet}
use Rattle.packets.specs.Spelling.{spelling}
use Rattle.packets.specs.Reading.{header_at}
use Rattle.packets.specs.Stream.{IsWritten, IsPart, IsFaultAt}

-- the header that bytes begin with, or its fault, or nothing while its 8 bytes are not there
abbrev pub IsJudged : Result (Option Header) Refusal → List ℕ → Type 0
IsJudged (Ok None) bytes = length bytes < 8
IsJudged (Ok (Some header)) bytes = (8 ≤ length bytes) × (header_at bytes ≡ Ok header)
IsJudged (Err fault) bytes = (8 ≤ length bytes) × (header_at bytes ≡ Err fault)

-- what is at the front of bytes: a frame, or less than one, or a fault, unless memory ran out
abbrev pub Advances : Result Next Refusal → List ℕ → Type 0
Advances (Ok (Whole p after)) bytes = IsWritten p × (bytes ≡ spelling p ++ after.now)
Advances (Ok (Part header)) bytes = IsPart header bytes
Advances (Err refusal) bytes = (refusal ≡ NoMemory) ⊎ IsFaultAt bytes refusal

-- what is left of a rest and a piece
abbrev pub left_of : List ℕ → Left → List ℕ
left_of rest left = (if left.has_taken then [] else rest) ++ left.piece.now

-- the list still begins as it did
abbrev pub Adds : List Packet → List Packet → Type 0
Adds old new = take (length old) new ≡ old
