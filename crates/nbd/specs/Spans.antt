-- The places of a device that a request's bytes are cut into.
use Rattle.std.specs.Prelude.{ℕ, ◌≡◌, ◌+◌, ◌-◌, ◌*◌, ◌/◌, ◌%◌, ◌<◌, ◌≤◌, ◌==◌, ◌&&◌, Bool, not, min, nat_lt, nat_le, if◌then◌else◌, List, [], ◌∷◌, ◌++◌, length, map, take, drop, replicate}
use Rattle.blocks.specs.Ranges.{IsRange}
use Rattle.device_parts.specs.Places.{Place}
use Rattle.nbd.specs.declared.command.NbdCommand.{NbdCommand}
use Rattle.nbd.specs.declared.command.NbdCommand.TheVariants as command
use Rattle.nbd.specs.Pieces.{piece, pieces}
use Rattle.nbd.specs.Requested.{Requested}

-- a span of a device: the block in which it begins, the byte of that block, and how many bytes
abbrev pub Span : Type 0
Span = ℕ × (ℕ × ℕ)

-- bytes before the first whole block
abbrev pub head : ℕ → ℕ → ℕ
head offset length = if offset % 4096 == 0 then (if nat_lt length 4096 then length else 0) else min length (4096 - offset % 4096)

-- whole blocks
abbrev pub middle : ℕ → ℕ → ℕ
middle offset length = (length - head offset length) / 4096

-- bytes after the last one
abbrev pub tail : ℕ → ℕ → ℕ
tail offset length = (length - head offset length) % 4096

-- so many bytes of one block, if there are any
abbrev pub edge : ℕ → ℕ → List Span
edge at bytes = if bytes == 0 then [] else (at / 4096, (at % 4096, bytes)) ∷ []

-- how many bytes the first of these spans has: up to the end of its block, or a range of whole blocks
abbrev pub span_length : ℕ → ℕ → ℕ
span_length at left =
    if (at % 4096 == 0) && nat_le 4096 left then piece (at / 4096) (left / 4096) * 4096 else min left (4096 - at % 4096)

-- a range of whole blocks
abbrev pub whole : ℕ × ℕ → Span
whole p = (p.0, (0, p.1 * 4096))

-- what a WRITE or WRITE_ZEROES of these bytes writes: at most one span within a block at each end, and whole ranges between
abbrev pub spans : ℕ → ℕ → List Span
spans offset length =
    edge offset (head offset length) ++ map whole (pieces ((offset + head offset length) / 4096) (middle offset length))
    ++ edge (offset + head offset length + middle offset length * 4096) (tail offset length)

-- the first block that lies inside these bytes
abbrev pub first_inside : ℕ → ℕ
first_inside offset = (offset + 4095) / 4096

-- how many blocks lie inside them
abbrev pub count_inside : ℕ → ℕ → ℕ
count_inside offset length = (offset + length) / 4096 - first_inside offset

-- what a TRIM writes: the whole blocks inside
abbrev pub trimmed : ℕ → ℕ → List Span
trimmed offset length = map whole (pieces (first_inside offset) (count_inside offset length))

-- the ranges that a READ reads
abbrev pub covering : ℕ → ℕ → List (ℕ × ℕ)
covering offset length = pieces (offset / 4096) ((offset + length + 4095) / 4096 - offset / 4096)

-- a READ's bytes in those of its ranges
abbrev pub cut_out : ℕ → ℕ → List ℕ → List ℕ
cut_out offset length bytes = take length (drop (offset % 4096) bytes)

-- each span begins where the one before ends, in bytes
abbrev pub JoinsBytes : ℕ → List Span → ℕ → Type 0
JoinsBytes at [] end = at ≡ end
JoinsBytes at (s ∷ ss) end = (s.0 * 4096 + s.1.0 ≡ at) × JoinsBytes (at + s.1.1) ss end

-- some bytes of one block, but not all
pub record IsWithinSpan (s : Span) : Type 0 where
  pub some : 0 < s.1.1
  pub within : s.1.0 + s.1.1 ≤ 4096

-- a range of whole blocks that a device takes at once
pub record IsWholeSpan (end : ℕ) (s : Span) : Type 0 where
  pub count : ℕ
  pub from : s.1.0 ≡ 0
  pub bytes : s.1.1 ≡ count * 4096
  pub range : IsRange (end / 4096) s.0 count

-- whether a span is not of whole blocks
abbrev pub is_edge : Span → Bool
is_edge s = not ((s.1.0 == 0) && (s.1.1 % 4096 == 0))

-- a span lies between two bytes of the device
pub record IsInsideSpan (first end : ℕ) (s : Span) : Type 0 where
  pub first_byte : first ≤ s.0 * 4096 + s.1.0
  pub last_byte : s.0 * 4096 + s.1.0 + s.1.1 ≤ end

-- the bytes of spans
unfoldable pub bytes_in : List Span → ℕ
bytes_in [] = 0
bytes_in (s ∷ ss) = s.1.1 + bytes_in ss

-- the spans that a request writes
abbrev pub written_as : NbdCommand → ℕ → ℕ → List Span
written_as command.Write offset length = spans offset length
written_as command.WriteZeroes offset length = spans offset length
written_as command.Trim offset length = trimmed offset length
written_as _ offset length = []

abbrev pub written_spans : Requested → List Span
written_spans r = written_as r.command r.offset r.length

-- spans, each with its bytes of these
unfoldable pub places_of : List Span → List ℕ → List Place
places_of [] bytes = []
places_of (s ∷ ss) bytes = record { block = s.0; from = s.1.0; bytes = take s.1.1 bytes } ∷ places_of ss (drop s.1.1 bytes)

-- the bytes that a request writes: the payload of a WRITE, or as many zeros as its spans have
abbrev pub contents_as : NbdCommand → List ℕ → List Span → List ℕ
contents_as command.Write payload written = payload
contents_as _ payload written = replicate (bytes_in written) 0

abbrev pub contents_of : Requested → List ℕ
contents_of r = contents_as r.command r.payload (written_spans r)

-- the places of a request's pieces
abbrev pub places : Requested → List Place
places r = places_of (written_spans r) (contents_of r)
