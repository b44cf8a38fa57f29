-- What the header and a slot say, and when each is refused.
use Rattle.std.specs.Prelude.{ℕ, ◌+◌, ◌/◌, ◌^◌, ◌==◌, nat_le, nat_lt, Bool, true, not, ◌&&◌, if◌then◌else◌, List, [], ◌∷◌, take, bytes_eq, Option, Some, None}
use Rattle.std.specs.Prelude.{Result, Ok, Err}
use Rattle.std.specs.Int.{w64, to_be_bytes}
use Rattle.blocks.specs.declared.block.TheConstants.{MAX_DEVICE_BLOCKS}
use Rattle.metadata.specs.declared.layout.TheConstants.{MAGIC, VERSION, FORMAT, MARKS_AT}
use Rattle.metadata.specs.declared.header.Header.{Header}
use Rattle.metadata.specs.declared.identifiers.Identifiers.{Identifiers}
use Rattle.metadata.specs.declared.identifiers.CleanEnd.{CleanEnd}
use Rattle.metadata.specs.declared.fault.MetadataFault.{MetadataFault}
use Rattle.metadata.specs.declared.fault.MetadataFault.TheVariants.{NotMetadata, OtherVersion, HeaderDamaged, OtherLength, OtherBlocks, IdentifiersDamaged}
use Rattle.metadata.specs.Words.{word, sum_of}

-- the words of a header, without its sum
abbrev pub header_words : Header → List ℕ
header_words h = MAGIC ∷ FORMAT ∷ h.blocks ∷ h.pair ∷ h.node ∷ []

-- what the bytes of a header say
abbrev pub header_of : List ℕ → Header
header_of bytes = record { blocks = word bytes 2; pair = word bytes 3; node = word bytes 4 }

-- the device may have this many blocks
abbrev pub are_blocks : ℕ → Bool
are_blocks blocks = nat_lt 0 blocks && nat_le blocks MAX_DEVICE_BLOCKS

-- the file is one of metadata
abbrev pub has_magic : List ℕ → Bool
has_magic bytes = bytes_eq (take 8 bytes) (to_be_bytes w64 MAGIC)

-- the header is not damaged
abbrev pub is_whole_header : List ℕ → Bool
is_whole_header bytes = (word bytes 1 == FORMAT) && (are_blocks (word bytes 2) && (word bytes 5 == sum_of (take 40 bytes)))

-- the device has as many blocks as the caller says, if he says it
abbrev pub is_asked : Option ℕ → ℕ → Bool
is_asked None blocks = true
is_asked (Some asked) blocks = asked == blocks

-- The first case that holds decides over a header in a file of this length.
abbrev pub header_judged : Option ℕ → ℕ → List ℕ → Result Header MetadataFault
header_judged asked len bytes =
    if not (has_magic bytes) then Err NotMetadata
    else if not (word bytes 1 / 2 ^ 32 == VERSION) then Err OtherVersion
    else if not (is_whole_header bytes) then Err HeaderDamaged
    else if not (len == MARKS_AT + word bytes 2) then Err OtherLength
    else if not (is_asked asked (word bytes 2)) then Err OtherBlocks
    else Ok (header_of bytes)

-- a flag as a word
abbrev pub flag : Bool → ℕ
flag b = if b then 1 else 0

-- the words of a clean end, or zeros
abbrev pub end_words : Option CleanEnd → List ℕ
end_words None = 0 ∷ 0 ∷ 0 ∷ 0 ∷ 0 ∷ 0 ∷ []
end_words (Some e) = 1 ∷ e.device ∷ e.inode ∷ e.size ∷ e.seconds ∷ e.nanoseconds ∷ []

-- the words of a slot, without its sum
abbrev pub slot_words : Identifiers → List ℕ
slot_words v =
    v.tuple.current ∷ v.tuple.bitmap ∷ v.tuple.first_historical ∷ v.tuple.second_historical ∷ flag v.is_primary ∷ flag v.is_consistent
    ∷ v.boot.high ∷ v.boot.low ∷ v.secondary_of ∷ end_words v.clean_end

-- what the bytes of a slot say of the end
abbrev pub end_of : List ℕ → Option CleanEnd
end_of bytes =
    if word bytes 9 == 0 then None
    else Some (record { device = word bytes 10; inode = word bytes 11; size = word bytes 12; seconds = word bytes 13; nanoseconds = word bytes 14 })

-- what the bytes of a slot say
abbrev pub identifiers_of : List ℕ → Identifiers
identifiers_of bytes = record {
  tuple = record { current = word bytes 0; bitmap = word bytes 1; first_historical = word bytes 2; second_historical = word bytes 3 };
  is_primary = not (word bytes 4 == 0);
  is_consistent = not (word bytes 5 == 0);
  boot = record { high = word bytes 6; low = word bytes 7 };
  secondary_of = word bytes 8;
  clean_end = end_of bytes;
}

-- A slot counts only with its sum.
abbrev pub slot_judged : List ℕ → Result Identifiers MetadataFault
slot_judged bytes = if word bytes 15 == sum_of (take 120 bytes) then Ok (identifiers_of bytes) else Err IdentifiersDamaged
