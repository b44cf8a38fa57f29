-- The grammar of a request's header (NBD protocol, "Request message"). The payload of a WRITE follows it.
use Rattle.std.specs.Prelude.{ℕ, ◌≡◌, ◌<◌, ◌^◌, ◌==◌, if◌then◌else◌, List, ◌++◌, Result, Ok, Err}
use Rattle.blocks.specs.declared.refusal.Refusal.{Refusal}
use Rattle.blocks.specs.declared.refusal.Refusal.TheVariants.{BadMagic}
use Rattle.packets.specs.Numbers.{number_in, number_bytes}
use Rattle.nbd.specs.declared.header.RequestHeader.{RequestHeader}

-- NBD_REQUEST_MAGIC
abbrev pub request_magic : ℕ
request_magic = 0x25609513

-- magic number, command flags, type, cookie, offset and length
unfoldable pub spelling : RequestHeader → List ℕ
spelling h =
    number_bytes 4 request_magic ++ number_bytes 2 h.flags ++ number_bytes 2 h.kind
    ++ number_bytes 8 h.cookie ++ number_bytes 8 h.offset ++ number_bytes 4 h.length

-- the numbers of a header fit their fields
pub record FitsFields (h : RequestHeader) : Type 0 where
  pub flags : h.flags < 2 ^ 16
  pub kind : h.kind < 2 ^ 16
  pub cookie : h.cookie < 2 ^ 64
  pub offset : h.offset < 2 ^ 64
  pub length : h.length < 2 ^ 32

-- the bytes are the header's spelling
pub record Spells (h : RequestHeader) (bytes : List ℕ) : Type 0 where
  pub fields : FitsFields h
  pub bytes_are : bytes ≡ spelling h

-- the fields of a header
unfoldable pub fields_at : List ℕ → RequestHeader
fields_at bytes = record {
  flags = number_in 2 4 bytes;
  kind = number_in 2 6 bytes;
  cookie = number_in 8 8 bytes;
  offset = number_in 8 16 bytes;
  length = number_in 4 24 bytes;
}

-- what 28 bytes are read as
unfoldable pub header_at : List ℕ → Result RequestHeader Refusal
header_at bytes = if number_in 4 0 bytes == request_magic then Ok (fields_at bytes) else Err BadMagic
