-- The requests that threads of a session have ended, and the receipts of their writes.
use Rattle.std.specs.Prelude.{◌≡◌, Bool, true, List, All, flat_map, map}
use Rattle.model.specs.Settlement.{Receipt}
use Rattle.nbd.specs.Requested.{Requested}
use Rattle.nbd.specs.Spans.{places}
use Rattle.serve_requests.specs.Places.{IsBegunFor, IsFrontBy}
use Rattle.serve_requests.specs.Receipts.{HasBegun, job_of, receipt_job}
use Rattle.serve_requests.specs.RequestUnderWay.{UnderWayState}
use Rattle.session_api.specs.Begun.{BegunState}
use Rattle.told.specs.declared.entry.Told.{Told}
use Rattle.told.specs.declared.entry.Told.TheVariants.{Given}

-- each of these receipts was given
abbrev pub AreGiven : (Told → Type 0) → List Receipt → Type 0
AreGiven says receipts = All (λ (receipt : Receipt). says (Given receipt)) receipts

-- What was begun of a request was accepted for its places. Whatever `says` holds of was told.
abbrev pub IsUnderWay : (Told → Type 0) → UnderWayState → Type 0
IsUnderWay says under_way = IsFrontBy (IsBegunFor says) (places under_way.request) under_way.begun

-- a request that has ended: whether it was done, the writes that were begun for it, and the receipts of those that were completed
pub record AnsweredState : Type 0 where
  pub request : Requested
  pub is_done : Bool
  pub begun : List BegunState
  pub receipts : List Receipt

-- such a request, by each of these
abbrev pub answered_as : Requested → Bool → List BegunState → List Receipt → AnsweredState
answered_as request done begun receipts = record { request = request; is_done = done; begun = begun; receipts = receipts }

-- Its writes are for a front of its places, and each was accepted with the bytes of its place: those of a WRITE are the parts of its payload,
-- one after another. If it was done they are all that it writes, and each has its receipt. Each of its receipts was given.
pub record IsAnswered (says : Told → Type 0) (answered : AnsweredState) : Type 0 where
  pub front : IsFrontBy (IsBegunFor says) (places answered.request) answered.begun
  pub whole : answered.is_done ≡ true → HasBegun answered.request answered.begun
  pub each : answered.is_done ≡ true → map receipt_job answered.receipts ≡ map job_of answered.begun
  pub given : AreGiven says answered.receipts

-- These are the receipts of requests that have ended, one request after another.
pub record AreAnswered (says : Told → Type 0) (receipts : List Receipt) : Type 0 where
  pub requests : List AnsweredState
  pub each : All (IsAnswered says) requests
  pub all : receipts ≡ flat_map (λ (answered : AnsweredState). answered.receipts) requests
