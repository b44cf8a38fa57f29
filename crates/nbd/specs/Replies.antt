-- The grammar of a reply's header (NBD protocol, "Simple reply message"). The data of a READ follow it.
use Rattle.std.specs.Prelude.{ℕ, ◌≡◌, ◌≢◌, ◌⊎◌, ◌<◌, ◌^◌, ◌==◌, if◌then◌else◌, List, ◌++◌, Option, Some, None, Result, Ok, Err}
use Rattle.blocks.specs.declared.refusal.Refusal.{Refusal}
use Rattle.blocks.specs.declared.refusal.Refusal.TheVariants.{BadMagic, BadField}
use Rattle.packets.specs.Numbers.{number_in, number_bytes}
use Rattle.nbd.specs.declared.errno.Errno.{Errno}
use Rattle.nbd.specs.declared.reply.Reply.{Reply}
use Rattle.nbd.specs.Errors.{number_of, errno_at}

-- NBD_SIMPLE_REPLY_MAGIC
abbrev pub reply_magic : ℕ
reply_magic = 0x67446698

-- the number in the error field: 0 if there is no error
abbrev pub error_number : Option Errno → ℕ
error_number None = 0
error_number (Some e) = number_of e

-- magic number, error and cookie
unfoldable pub reply_spelling : Reply → List ℕ
reply_spelling r = number_bytes 4 reply_magic ++ number_bytes 4 (error_number r.error) ++ number_bytes 8 r.cookie

-- the bytes are the reply's spelling
pub record SpellsReply (r : Reply) (bytes : List ℕ) : Type 0 where
  pub cookie : r.cookie < 2 ^ 64
  pub bytes_are : bytes ≡ reply_spelling r

-- a reply with an error that has a number
abbrev pub failed_at : Option Errno → ℕ → Result Reply Refusal
failed_at None cookie = Err BadField
failed_at (Some e) cookie = Ok (record { cookie = cookie; error = Some e })

-- the reply with this number in its error field
abbrev pub reply_with : ℕ → ℕ → Result Reply Refusal
reply_with number cookie = if number == 0 then Ok (record { cookie = cookie; error = None }) else failed_at (errno_at number) cookie

-- what 16 bytes are read as
unfoldable pub reply_at : List ℕ → Result Reply Refusal
reply_at bytes = if number_in 4 0 bytes == reply_magic then reply_with (number_in 4 4 bytes) (number_in 8 8 bytes) else Err BadMagic

-- the first fault of 16 bytes: their magic number, then their error
abbrev pub IsReplyFault : List ℕ → Refusal → Type 0
IsReplyFault bytes refusal =
    ((number_in 4 0 bytes ≢ reply_magic) × (refusal ≡ BadMagic))
    ⊎ ((number_in 4 0 bytes ≡ reply_magic) × (number_in 4 4 bytes ≢ 0) × (errno_at (number_in 4 4 bytes) ≡ None) × (refusal ≡ BadField))
