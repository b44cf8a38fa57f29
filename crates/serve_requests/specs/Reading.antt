-- A READ whose reply is told in portions.
use Rattle.std.specs.Prelude.{Bool, true, false, ℕ, ◌≡◌, ◌⊎◌, ◌+◌, ◌-◌, ◌%◌, ◌==◌, ◌&&◌, ◌||◌, not, min, if◌then◌else◌, List, [], ◌++◌, length, replicate, Vec, Option, is_some}
use Rattle.std.specs.Global.{Global}
use Rattle.nbd.specs.Chunks.{chunk_spelling, failed_chunk}
use Rattle.nbd.specs.declared.chunk.Body.TheVariants as body
use Rattle.nbd.specs.declared.errno.Errno.{Errno}
use Rattle.nbd.specs.Requested.{Requested}
use Rattle.serve_requests.specs.Reads.{AreRead}
use Rattle.serve_requests.specs.Told.{failure_spelling, success_spelling}

-- the request, and how many of its bytes the portions before have told
pub record ReadingState : Type 0 where
  pub request : Requested
  pub told : ℕ

-- how many bytes the next portion has: up to the next MiB of the device, or all that are left
abbrev pub portion : ReadingState → ℕ
portion r = min (r.request.length - r.told) (1048576 - (r.request.offset + r.told) % 1048576)

-- whether the next portion is the last one
abbrev pub is_last : ReadingState → Bool
is_last r = r.told + portion r == r.request.length

-- the same READ after its next portion
abbrev pub after : ReadingState → ReadingState
after r = record r { told = r.told + portion r }

-- these are a chunk with the bytes of the next portion
pub record TellsPart (r : ReadingState) (bytes spelled : List ℕ) : Type 0 where
  pub bytes_in : Vec ℕ Global
  pub same : bytes_in.items ≡ bytes
  pub chunk : spelled ≡ chunk_spelling (record { cookie = r.request.cookie; is_last = is_last r; body = body.Data (r.request.offset + r.told) bytes_in })

-- or a chunk that tells all of them as zeros, which they are
pub record TellsHole (r : ReadingState) (bytes spelled : List ℕ) : Type 0 where
  pub zeros : bytes ≡ replicate (portion r) 0
  pub chunk : spelled ≡ chunk_spelling (record { cookie = r.request.cookie; is_last = is_last r; body = body.Hole (r.request.offset + r.told) (portion r) })

-- the bytes of a portion come in a chunk, or as they are, the first ones after the header of the reply
abbrev pub IsPortionSpelled : Bool → ReadingState → List ℕ → List ℕ → Type 0
IsPortionSpelled false r bytes spelled = spelled ≡ (if r.told == 0 then success_spelling r.request ++ bytes else bytes)
IsPortionSpelled true r bytes spelled = TellsPart r bytes spelled ⊎ TellsHole r bytes spelled

-- the next portion of the reply: its bytes of the device, as that held them
pub record IsPortionTold (holds : ℕ → ℕ → List ℕ → Type 0) (r : ReadingState) (spelled : List ℕ) : Type 0 where
  pub bytes : List ℕ
  pub read : AreRead holds (r.request.offset + r.told) (portion r) bytes
  pub long : length bytes ≡ portion r
  pub told : IsPortionSpelled r.request.terms.structured r bytes spelled

-- what ends the reply to a READ whose next portion fails: a chunk that tells the error, or a header with it; behind a header without an error
-- nothing can tell of it
abbrev pub end_of_failed : ReadingState → Errno → List ℕ
end_of_failed r errno =
    if r.request.terms.structured then chunk_spelling (failed_chunk r.request.cookie errno)
    else (if r.told == 0 then failure_spelling r.request errno else [])

-- whether the next portion begins the reply and whether it ends it, so that no other reply may stand between: a chunk stands for itself
abbrev pub begins_reply : ReadingState → Bool
begins_reply r = r.request.terms.structured || (r.told == 0)

abbrev pub ends_reply : ReadingState → Bool
ends_reply r = r.request.terms.structured || is_last r

-- whether no error can be told any more
abbrev pub is_beyond_error : ReadingState → Bool
is_beyond_error r = not r.request.terms.structured && not (r.told == 0)

-- whether a reply with this error lacks bytes
abbrev pub is_unfinished : ReadingState → Option Errno → Bool
is_unfinished r error = is_some error && is_beyond_error r
