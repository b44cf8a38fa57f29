-- A stream of frames: the packets that it spells, and how it ends.
use Rattle.std.specs.Prelude.{ℕ, ◌≡◌, ◌+◌, ◌<◌, ◌≤◌, List, ◌++◌, length, take, Option, Some, None, Result, Ok, Err}
use Rattle.std.specs.List.{flat_map, AllByRecursion}
use Rattle.blocks.specs.declared.refusal.Refusal.{Refusal}
use Rattle.blocks.specs.declared.refusal.Refusal.TheVariants.{BadField}
use Rattle.packets.specs.declared.header.Header.{Header}
use Rattle.packets.specs.declared.packet.Packet.{Packet}
use Rattle.packets.specs.Spelling.{spelling, IsSpellable, FitsFields}
use Rattle.packets.specs.Reading.{header_at}
use Rattle.packets.specs.Frames.{IsNoSpelling}

-- a packet that has a spelling
abbrev pub IsWritten : Packet → Type 0
IsWritten p = IsSpellable p × FitsFields p

-- packets, one after the other
abbrev pub spellings : List Packet → List ℕ
spellings packets = flat_map spelling packets

-- less than a whole frame: fewer bytes than a header has, or a header with no fault and less than its payload
abbrev pub IsPart : Option Header → List ℕ → Type 0
IsPart None bytes = length bytes < 8
IsPart (Some header) bytes = (8 ≤ length bytes) × (header_at bytes ≡ Ok header) × (length bytes < 8 + header.len)

-- bytes with which a frame may begin, and which are no whole frame yet
abbrev pub IsFront : List ℕ → Type 0
IsFront bytes = (header : Option Header) × IsPart header bytes

-- the fault of bytes with this header, or this fault in its place: the header's own, once its 8 bytes are
-- there, or that no packet is spelled so, once all of the payload is there
abbrev pub IsFaultWith : Result Header Refusal → List ℕ → Refusal → Type 0
IsFaultWith (Err fault) bytes refusal = refusal ≡ fault
IsFaultWith (Ok header) bytes refusal =
    (8 + header.len ≤ length bytes) × (refusal ≡ BadField) × IsNoSpelling (take (8 + header.len) bytes)

-- the fault in place of a frame at the front of bytes
abbrev pub IsFaultAt : List ℕ → Refusal → Type 0
IsFaultAt bytes refusal = (8 ≤ length bytes) × IsFaultWith (header_at bytes) bytes refusal

-- how a stream ends after its last packet: with less than a frame, or with a fault in a frame's place
abbrev pub Ends : Option Refusal → List ℕ → Type 0
Ends None bytes = IsFront bytes
Ends (Some refusal) bytes = IsFaultAt bytes refusal

-- the stream is the spellings of these packets and then a rest, which ends so
pub record Reads (stream : List ℕ) (packets : List Packet) (rest : List ℕ) (fault : Option Refusal) : Type 0 where
  pub whole : stream ≡ spellings packets ++ rest
  pub each : AllByRecursion IsWritten packets
  pub end : Ends fault rest

-- pieces read as these packets and this fault, or none
abbrev pub Decodes : List (List ℕ) → List Packet → Option Refusal → Type 0
Decodes pieces packets fault = (rest : List ℕ) × Reads (flat_map (λ piece. piece) pieces) packets rest fault

-- a decoder as contracts see it: the bytes that are not yet a whole frame, and the fault that it met
pub record Held : Type 0 where
  pub rest : List ℕ
  pub fault : Option Refusal

-- packets were put at the end of a list, and the bytes are their spellings and then the remaining ones
pub record Gives (bytes : List ℕ) (old new : List Packet) (left : List ℕ) : Type 0 where
  pub packets : List Packet
  pub added : new ≡ old ++ packets
  pub each : AllByRecursion IsWritten packets
  pub whole : bytes ≡ spellings packets ++ left

-- the packets before a fault were put at the end of a list
abbrev pub Stops : List ℕ → List Packet → List Packet → Refusal → Type 0
Stops bytes old new refusal = (left : List ℕ) × Gives bytes old new left × IsFaultAt left refusal
