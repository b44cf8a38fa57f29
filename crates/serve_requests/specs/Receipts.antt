-- The receipts of what a request writes.
use Rattle.std.specs.Prelude.{true, ℕ, ◌≡◌, List, ◌++◌, map, Result, is_ok, OnOk}
use Rattle.model.specs.Settlement.{Receipt}
use Rattle.nbd.specs.declared.command.NbdCommand.TheVariants as command
use Rattle.nbd.specs.declared.errno.Errno.{Errno}
use Rattle.nbd.specs.Requested.{Requested}
use Rattle.nbd.specs.Spans.{places}
use Rattle.session_api.specs.Begun.{BegunState}
use Rattle.serve_requests.specs.Places.{AllPairs, IsFrontBy, IsOf}

-- what a write that was begun has in common with its receipt: its number, its first block, and how many it has
abbrev pub job_of : BegunState → ℕ × (ℕ × ℕ)
job_of begun = (begun.number, (begun.first, begun.count))

abbrev pub receipt_job : Receipt → ℕ × (ℕ × ℕ)
receipt_job receipt = (receipt.number, (receipt.first, receipt.count))

-- One of each of these was appended, in their order, and nothing else.
pub record HasMore {A B : Type 0} (of : A → B) (wanted : List B) (old new : List A) : Type 0 where
  pub more : List A
  pub appended : new ≡ old ++ more
  pub each : map of more ≡ wanted

-- a request as it was, whether or not it was divided since
abbrev pub IsSame : Requested → Requested → Type 0
IsSame request now = now ≡ record request { is_divided = now.is_divided }

-- What was begun is all that a request writes: a write for each of its places, in their order.
abbrev pub HasBegun : Requested → List BegunState → Type 0
HasBegun request begun = AllPairs IsOf (places request) begun

-- What was begun for a request, all of it or a front. A READ, a BLOCK_STATUS, a FLUSH and a DISC write nothing.
abbrev pub IsFrontOf : Requested → List BegunState → Type 0
IsFrontOf request begun = IsFrontBy IsOf (places request) begun

-- What was begun, and whether all was: a front of it if not. A FLUSH and a DISC begin nothing, and that is not refused.
pub record Begins (request : Requested) (begins : Result Unit Errno) (begun : List BegunState) : Type 0 where
  pub all : OnOk begins (HasBegun request begun)
  pub front : IsFrontOf request begun
  pub flush : request.command ≡ command.Flush → is_ok begins ≡ true
  pub disconnect : request.command ≡ command.Disconnect → is_ok begins ≡ true
