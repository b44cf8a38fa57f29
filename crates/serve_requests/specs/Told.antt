-- How the reply to a request is spelled.
use Rattle.std.specs.Prelude.{Bool, true, false, ℕ, ◌≡◌, ◌⊎◌, if◌then◌else◌, List, ◌++◌, length, replicate, Vec, Some, None}
use Rattle.std.specs.Global.{Global}
use Rattle.nbd.specs.Chunks.{chunk_spelling, failed_chunk}
use Rattle.nbd.specs.declared.chunk.Body.TheVariants as body
use Rattle.nbd.specs.declared.chunk.Extent.{Extent}
use Rattle.nbd.specs.declared.command.NbdCommand.{NbdCommand}
use Rattle.nbd.specs.declared.command.NbdCommand.TheVariants as command
use Rattle.nbd.specs.declared.errno.Errno.{Errno}
use Rattle.nbd.specs.Replies.{reply_spelling}
use Rattle.nbd.specs.Requested.{Requested}
use Rattle.serve_requests.specs.Extents.{AreExtents}
use Rattle.serve_requests.specs.Reads.{AreRead}

-- whether the reply to a command comes in a chunk: that to a READ where replies are structured, and that to a BLOCK_STATUS, which is served
-- only there
abbrev pub comes_in_chunk : Bool → NbdCommand → Bool
comes_in_chunk structured command.Read = structured
comes_in_chunk structured command.BlockStatus = true
comes_in_chunk structured _ = false

abbrev pub is_in_chunk : Requested → Bool
is_in_chunk request = comes_in_chunk request.terms.structured request.command

-- whether a command that is done has no data to tell
abbrev pub is_without_data : NbdCommand → Bool
is_without_data command.Read = false
is_without_data command.BlockStatus = false
is_without_data _ = true

-- the reply to a request that failed
abbrev pub failure_spelling : Requested → Errno → List ℕ
failure_spelling request errno =
    if is_in_chunk request then chunk_spelling (failed_chunk request.cookie errno)
    else reply_spelling (record { cookie = request.cookie; error = Some errno })

-- the reply to one that is done, without data
abbrev pub success_spelling : Requested → List ℕ
success_spelling request = reply_spelling (record { cookie = request.cookie; error = None })

-- these are a chunk of data, which begin with the first byte of the request's range
pub record TellsData (request : Requested) (bytes spelled : List ℕ) : Type 0 where
  pub bytes_in : Vec ℕ Global
  pub same : bytes_in.items ≡ bytes
  pub chunk : spelled ≡ chunk_spelling (record { cookie = request.cookie; is_last = true; body = body.Data request.offset bytes_in })

-- or a chunk that tells all of its bytes as zeros, which they are
pub record TellsZeros (request : Requested) (bytes spelled : List ℕ) : Type 0 where
  pub zeros : bytes ≡ replicate request.length 0
  pub chunk : spelled ≡ chunk_spelling (record { cookie = request.cookie; is_last = true; body = body.Hole request.offset request.length })

-- data follow the header of a reply, or come in one chunk
abbrev pub IsDataTold : Bool → Requested → List ℕ → List ℕ → Type 0
IsDataTold false request bytes spelled = spelled ≡ success_spelling request ++ bytes
IsDataTold true request bytes spelled = TellsData request bytes spelled ⊎ TellsZeros request bytes spelled

-- the reply to a READ that is done: the bytes of its range, as the device held them
pub record IsReadTold (holds : ℕ → ℕ → List ℕ → Type 0) (request : Requested) (spelled : List ℕ) : Type 0 where
  pub bytes : List ℕ
  pub read : AreRead holds request.offset request.length bytes
  pub long : length bytes ≡ request.length
  pub told : IsDataTold request.terms.structured request bytes spelled

-- the reply to a BLOCK_STATUS that is done: extents of its range
pub record IsStatusTold (request : Requested) (spelled : List ℕ) : Type 0 where
  pub extents : Vec Extent Global
  pub are : AreExtents request extents.items
  pub chunk : spelled ≡ chunk_spelling (record { cookie = request.cookie; is_last = true; body = body.Extents extents })
