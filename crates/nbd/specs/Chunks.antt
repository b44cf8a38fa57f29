-- The grammar of a chunk of a structured reply (NBD protocol, "Structured reply message").
use Rattle.std.specs.Prelude.{ℕ, Bool, true, if◌then◌else◌, List, [], ◌++◌, length, flat_map}
use Rattle.packets.specs.Numbers.{number_bytes}
use Rattle.nbd.specs.declared.chunk.Body.{Body}
use Rattle.nbd.specs.declared.chunk.Body.TheVariants as body
use Rattle.nbd.specs.declared.chunk.Chunk.{Chunk}
use Rattle.nbd.specs.declared.chunk.Extent.{Extent}
use Rattle.nbd.specs.declared.errno.Errno.{Errno}
use Rattle.nbd.specs.Errors.{number_of}

-- NBD_STRUCTURED_REPLY_MAGIC
abbrev pub chunk_magic : ℕ
chunk_magic = 0x668e33ef

-- the type of each: NONE, OFFSET_DATA, OFFSET_HOLE, BLOCK_STATUS and ERROR
abbrev pub kind_of_body : Body → ℕ
kind_of_body body.Nothing = 0
kind_of_body (body.Data offset bytes) = 1
kind_of_body (body.Hole offset length) = 2
kind_of_body (body.Extents extents) = 5
kind_of_body (body.Failed errno) = 32769

-- an extent: how many bytes, and its flags
abbrev pub extent_bytes : Extent → List ℕ
extent_bytes e = number_bytes 4 e.length ++ number_bytes 4 e.flags

-- what follows the header: an offset and its data, a hole's offset and its length, the context's id and its extents, or an error without
-- a message
unfoldable pub body_bytes : Body → List ℕ
body_bytes body.Nothing = []
body_bytes (body.Data offset bytes) = number_bytes 8 offset ++ bytes.items
body_bytes (body.Hole offset length) = number_bytes 8 offset ++ number_bytes 4 length
body_bytes (body.Extents extents) = number_bytes 4 1 ++ flat_map extent_bytes extents.items
body_bytes (body.Failed errno) = number_bytes 4 (number_of errno) ++ number_bytes 2 0

-- the part of it that has any length: data, or extents
unfoldable pub rest_bytes : Body → List ℕ
rest_bytes (body.Data offset bytes) = bytes.items
rest_bytes (body.Extents extents) = flat_map extent_bytes extents.items
rest_bytes _ = []

-- magic number, flags (DONE 1 ends the reply), type, cookie, and the length of what follows
abbrev pub header_spelling : ℕ → Bool → ℕ → ℕ → List ℕ
header_spelling cookie is_last kind long =
    number_bytes 4 chunk_magic ++ number_bytes 2 (if is_last then 1 else 0) ++ number_bytes 2 kind ++ number_bytes 8 cookie ++ number_bytes 4 long

-- the header, and what follows
unfoldable pub chunk_spelling : Chunk → List ℕ
chunk_spelling c = header_spelling c.cookie c.is_last (kind_of_body c.body) (length (body_bytes c.body)) ++ body_bytes c.body

-- the chunk that tells an error, and ends the reply
abbrev pub failed_chunk : ℕ → Errno → Chunk
failed_chunk cookie errno = record { cookie = cookie; is_last = true; body = body.Failed errno }
