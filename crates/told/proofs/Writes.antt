-- A write that is accepted stands in the history under its number, and so it does in every later one.
use Rattle.std.proofs.Common.{ℕ, zero, suc, ◌≡◌, Bool, true, false, List, [], ◌∷◌, ◌++◌, length, map, Option, Some, None, slice_get, Ok, refl, sym, ◌∙◌, ap, subst}
use Rattle.std.proofs.Common.{◌==◌}
use Rattle.std.specs.Prelude.{if◌then◌else◌}
use Rattle.blocks.specs.declared.refusal.Refusal.{Refusal}
use Rattle.blocks.specs.declared.outcome.Done.{Done}
use Rattle.blocks.specs.declared.outcome.Decision.{Decision}
use Rattle.blocks.specs.declared.outcome.Decision.TheVariants.{NoSync, BitmapSync, FullSync}
use Rattle.blocks.specs.declared.outcome.Reply.{Reply}
use Rattle.blocks.specs.declared.outcome.Reply.TheVariants as reply
use Rattle.blocks.specs.declared.outcome.What.{What}
use Rattle.blocks.specs.declared.outcome.What.TheVariants as what
use Rattle.model.specs.Contents.{Write}
use Rattle.model.specs.Frames.{UuidsFrame}
use Rattle.model.specs.Primary.{Accepted, LocalOutcome, OnDisk, Failed, PrimaryHistory, primary_connection, is_established, with_primary_connection}
use Rattle.model.specs.PrimarySteps.{follows, faulted, faulted_by, accepted_at, set_outcome, submission, submit, submit_tests, submitted, submitted_with}
use Rattle.model.specs.PrimarySteps.{succeeding}
use Rattle.model.specs.Stream.{within}
use Rattle.model.specs.Refusals.{first_refusal}
use Rattle.model.specs.Acknowledgements.{begun_with}
use Rattle.model.specs.LocalRuns.{PrimaryEvent, primary_run}
use Rattle.laws.proofs.Lists.Elements.{get-left, get-end}
use Rattle.laws.proofs.Primary.Moves.{IsKeptByMoves, IsKeptByReleases, following-from, kept-by-releases, keeps-run, with_frame}

-- the write stands there
abbrev pub HasWrite : ℕ → Write → PrimaryHistory → Type 0
HasWrite k write h = (entry : Accepted) × (slice_get h.writes k ≡ Some entry) × (entry.write ≡ write)

get-map : {X : Type 0} (f : X → X) (xs : List X) (k : ℕ) (x : X) → slice_get xs k ≡ Some x → slice_get (map f xs) k ≡ Some (f x)
get-map f [] k x at = absurd (cc)
get-map f (y ∷ xs) zero x at = let same : y ≡ x = cc in ap (λ z. Some (f z)) same
get-map f (y ∷ xs) (suc k) x at = get-map f xs k x at

same-write : (b : Bool) (accepted : Accepted) (outcome : LocalOutcome) → (if b then record accepted { outcome = outcome } else accepted).write ≡ accepted.write
same-write true accepted outcome = refl
same-write false accepted outcome = refl

outcome-keeps : (k : ℕ) (write : Write) (number : ℕ) (outcome : LocalOutcome) (h : PrimaryHistory) → HasWrite k write h
    → (entry : Accepted) × (slice_get (map (set_outcome number outcome) h.writes) k ≡ Some entry) × (entry.write ≡ write)
outcome-keeps k write number outcome h has = (
  set_outcome number outcome has.0,
  get-map (set_outcome number outcome) h.writes k has.0 has.1,
  same-write (has.0.write.number == number) has.0 outcome ∙ has.2,
)

module _ (k : ℕ) (write : Write) where
  abbrev P : PrimaryHistory → Type 0
  P = HasWrite k write

  pub write-follows : (h : PrimaryHistory) → P h → P (follows h).history
  write-follows = following-from P P P (λ h has. has) (λ g over has. has) (λ g on has. has) (λ g over has. has) (λ g has. has)

  write-submits : (h : PrimaryHistory) (first : ℕ) (contents : List (List ℕ)) → P h → P (submitted h first contents)
  write-submits h first contents has = go (is_established (primary_connection h))
    where
      go : (b : Bool) → P (submitted_with b h first contents)
      go true = (has.0, get-left h.writes _ k has.0 has.1, has.2)
      go false = (has.0, get-left h.writes _ k has.0 has.1, has.2)

  write-faults : (h : PrimaryHistory) (number : ℕ) (offsets : List ℕ) → P h → P (faulted number offsets h)
  write-faults h number offsets has = go (accepted_at h number)
    where
      go : (v : Option Accepted) → P (faulted_by v number offsets h)
      go None = has
      go (Some accepted) = outcome-keeps k write number (Failed (within (length accepted.write.contents) offsets)) h has

  write-begins : (h : PrimaryHistory) (decided : Decision) → P h → P (begun_with decided h)
  write-begins h NoSync has = has
  write-begins h BitmapSync has = has
  write-begins h FullSync has = has

  write-kept : IsKeptByMoves P P
  write-kept = record {
    following = write-follows;
    opens = λ h sync loss closed fresh has. has;
    submits = λ h first contents may has. write-submits h first contents has;
    writes = λ h number waiting has. outcome-keeps k write number OnDisk h has;
    faults = λ h number offsets waiting has. write-faults h number offsets has;
    sends = λ h standing due has. has;
    greets = λ h frame standing new met has. has;
    begins = λ h peer decided standing new late is fresh has.
        write-begins (record (with_primary_connection (with_frame (Ok (UuidsFrame peer))) h) { peer = Some peer }) decided has;
    receives = λ h ack standing begun may has. has;
    applies = λ h ack standing begun may has. has;
    clears = λ h ack standing begun may has. has;
    confirms = λ h number size standing begun turn has. has;
    refuses = λ h frame peer standing has. has;
    resyncs = λ h block read any runs alone free has. has;
    closes = λ h standing has. has;
    receipts = λ h number has. has;
  }

  write-released : IsKeptByReleases P P
  write-released = kept-by-releases P P (λ h marks has. has)

  -- a later history has it too
  pub write-stays : (events : List PrimaryEvent) (h : PrimaryHistory) → P h → P (primary_run events h)
  write-stays = keeps-run P P write-kept write-released

-- the one that is submitted stands at the end
write-new : (h : PrimaryHistory) (first : ℕ) (contents : List (List ℕ)) → HasWrite (length h.writes) (submission h first contents) (submitted h first contents)
write-new h first contents = go (is_established (primary_connection h))
  where
    go : (b : Bool) → HasWrite (length h.writes) (submission h first contents) (submitted_with b h first contents)
    go true = (_, get-end h.writes _, refl)
    go false = (_, get-end h.writes _, refl)

abbrev what_of : Reply → What
what_of r = elim r as (λ _. What) [ reply.Ok done ↦ done.what | _ ↦ what.Nothing ]

abbrev number_of : What → ℕ
number_of w = elim w as (λ _. ℕ) [ what.Write number ↦ number | _ ↦ 0 ]

-- a submission by what its tests say
abbrev pub outcome : Option Refusal → PrimaryHistory → ℕ → List (List ℕ) → Reply × PrimaryHistory
outcome v h first contents = elim v as (λ _. Reply × PrimaryHistory) [
  | Some refusal ↦ (reply.Refused refusal, h)
  | None ↦ succeeding (what.Write (suc (length h.writes))) (submitted h first contents)
]

-- A submission that was accepted under a number is the write of that number from then on.
pub written : (h : PrimaryHistory) (first : ℕ) (contents : List (List ℕ)) (done : Done) (number : ℕ) → reply.Ok done ≡ (submit first contents false h).0
    → done.what ≡ what.Write number
    → (k : ℕ) × (number ≡ suc k) × HasWrite k (record { number = number; first = first; contents = contents }) (submit first contents false h).1
written h first contents done number said is = go (first_refusal (submit_tests h first contents false)) said
  where
    go : (v : Option Refusal) → reply.Ok done ≡ (outcome v h first contents).0
        → (k : ℕ) × (number ≡ suc k) × HasWrite k (record { number = number; first = first; contents = contents }) (outcome v h first contents).1
    go (Some refusal) ok = absurd (cc)
    go None ok =
        let k = length h.writes in
        let next : number ≡ suc k = ap number_of (sym is ∙ ap what_of ok) in
        let made = write-follows k (submission h first contents) (submitted h first contents) (write-new h first contents) in
        (k, next, (made.0, made.1, made.2 ∙ ap (λ (n : ℕ). record { number = n; first = first; contents = contents }) (sym next)))
