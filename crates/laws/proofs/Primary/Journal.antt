-- The journal has accepted writes: each entry is of one, as it was accepted.
use Rattle.std.proofs.Common.{ℕ, zero, suc, ◌≡◌, inl, inr, Bool, true, false, ◌&&◌, ◌==◌, List, [], ◌∷◌, ◌++◌, length, map, Option, Some, None, slice_get, refl}
use Rattle.std.proofs.Common.{sym, ◌∙◌, ap}
use Rattle.std.specs.Prelude.{if◌then◌else◌}
use Rattle.blocks.specs.declared.settings.Settings.{Settings}
use Rattle.blocks.specs.declared.tuple.Tuple.{Tuple}
use Rattle.blocks.specs.declared.outcome.Decision.{Decision}
use Rattle.blocks.specs.declared.outcome.Decision.TheVariants.{NoSync, BitmapSync, FullSync}
use Rattle.model.specs.Contents.{BlockMap}
use Rattle.model.specs.Stream.{within}
use Rattle.model.specs.Primary.{LocalOutcome, Waiting, OnDisk, Failed, Accepted, Completion, PrimaryHistory, primary_opening, primary_connection, last_index}
use Rattle.model.specs.Primary.{is_established}
use Rattle.model.specs.Primary.{is_open, completes}
use Rattle.model.specs.PrimarySteps.{newly_completed, completion_of, with_completions, submission, submitted, set_outcome, accepted_at}
use Rattle.model.specs.PrimarySteps.{faulted, submitted_with, faulted_by}
use Rattle.model.specs.Acknowledgements.{begun_with}
use Rattle.model.specs.LocalRuns.{PrimaryEvent, primary_run}
use Rattle.laws.proofs.Primary.Moves.{IsKeptByMoves, kept-by-releases, following-from, keeps-run}
use Rattle.laws.proofs.Lists.Elements.{get-left, get-split}
use Rattle.laws.proofs.Lists.Picks.{pick-filtered, pick-image}

-- each entry of the journal is of an accepted write
abbrev pub JournalIsAccepted : PrimaryHistory → Type 0
JournalIsAccepted h = (n : ℕ) (entry : Completion) → slice_get h.journal n ≡ Some entry
    → (i : ℕ) × (a : Accepted) × (slice_get h.writes i ≡ Some a) × (entry.write ≡ a.write)

-- what is completed now is accepted
completions : (h : PrimaryHistory) → JournalIsAccepted h → JournalIsAccepted (with_completions h)
completions h all n entry at = elim (get-split h.journal (map (completion_of h) (newly_completed h)) n entry at) [
  | inl old ↦ all n entry old
  | inr new ↦
      let of = pick-image (completion_of h) (newly_completed h) new.0 entry new.2 in
      let there = pick-filtered (λ accepted. is_open h accepted && completes h accepted) h.writes new.0 of.0 of.1 in
      (there.0, of.0, there.1, ap (λ (c : Completion). c.write) (sym of.2))
]

-- a write more, or an outcome that is put down, leaves those that are there
more : (h : PrimaryHistory) (added : Accepted) → JournalIsAccepted h
    → (n : ℕ) (entry : Completion) → slice_get h.journal n ≡ Some entry
    → (i : ℕ) × (a : Accepted) × (slice_get (h.writes ++ added ∷ []) i ≡ Some a) × (entry.write ≡ a.write)
more h added all n entry at = let was = all n entry at in (was.0, was.1, get-left h.writes (added ∷ []) was.0 was.1 was.2, was.3)

get-outcome : (number : ℕ) (outcome : LocalOutcome) (writes : List Accepted) (i : ℕ) (a : Accepted) → slice_get writes i ≡ Some a
    → (b : Accepted) × (slice_get (map (set_outcome number outcome) writes) i ≡ Some b) × (a.write ≡ b.write)
get-outcome number outcome [] i a at = absurd (cc)
get-outcome number outcome (x ∷ writes) zero a at = let same : x ≡ a = cc in (
  set_outcome number outcome x,
  refl,
  ap (λ (y : Accepted). y.write) (sym same)
      ∙ go (x.write.number == number),
)
  where
    go : (b : Bool) → x.write ≡ (if b then record x { outcome = outcome } else x).write
    go true = refl
    go false = refl
get-outcome number outcome (x ∷ writes) (suc i) a at = get-outcome number outcome writes i a at

outcomes : (h : PrimaryHistory) (number : ℕ) (outcome : LocalOutcome) → JournalIsAccepted h
    → (n : ℕ) (entry : Completion) → slice_get h.journal n ≡ Some entry
    → (i : ℕ) × (a : Accepted) × (slice_get (map (set_outcome number outcome) h.writes) i ≡ Some a) × (entry.write ≡ a.write)
outcomes h number outcome all n entry at =
    let was = all n entry at in
    let now = get-outcome number outcome h.writes was.0 was.1 was.2 in
    (was.0, now.0, now.1, was.3 ∙ now.2)

submits : (h : PrimaryHistory) (first : ℕ) (contents : List (List ℕ)) → JournalIsAccepted h → JournalIsAccepted (submitted h first contents)
submits h first contents all = go (is_established (primary_connection h))
  where
    go : (b : Bool) → JournalIsAccepted (submitted_with b h first contents)
    go true = more h (record {
      write = submission h first contents;
      journal_length = length h.journal;
      home = Some (record { index = last_index h.connections; place = length (primary_connection h).stream });
      outcome = Waiting;
    }) all
    go false = more h (record { write = submission h first contents; journal_length = length h.journal; home = None; outcome = Waiting }) all

faults : (h : PrimaryHistory) (number : ℕ) (offsets : List ℕ) → JournalIsAccepted h → JournalIsAccepted (faulted number offsets h)
faults h number offsets all = go (accepted_at h number)
  where
    go : (v : Option Accepted) → JournalIsAccepted
        (faulted_by v number offsets h)
    go None = all
    go (Some accepted) = outcomes h number (Failed (within (length accepted.write.contents) offsets)) all

begins : (h : PrimaryHistory) (decided : Decision) → JournalIsAccepted h → JournalIsAccepted (begun_with decided h)
begins h NoSync all = all
begins h BitmapSync all = all
begins h FullSync all = all

-- Every move keeps it.
journal-kept : IsKeptByMoves JournalIsAccepted JournalIsAccepted
journal-kept = record {
  following = following-from JournalIsAccepted JournalIsAccepted JournalIsAccepted completions (λ g over all. all) (λ g on all. all) (λ g over all. all)
      (λ g all. all);
  opens = λ h sync loss closed words all. all;
  submits = λ h first contents may all. submits h first contents all;
  writes = λ h number waiting all. outcomes h number OnDisk all;
  faults = λ h number offsets waiting all. faults h number offsets all;
  sends = λ h standing due all. all;
  greets = λ h frame standing new met all. all;
  begins = λ h peer decided standing new late is words all. begins _ decided all;
  receives = λ h ack standing begun may all. all;
  applies = λ h ack standing begun may all. all;
  clears = λ h ack standing begun may all. all;
  confirms = λ h number size standing begun turn all. all;
  refuses = λ h frame peer standing all. all;
  resyncs = λ h block read may runs alone is all. all;
  closes = λ h standing all. all;
  receipts = λ h number all. all;
}

-- Every run of a primary keeps it.
pub journal-run : (settings : Settings) (disk : BlockMap) (tuple : Tuple) (marks : ℕ → Bool) (events : List PrimaryEvent)
    → JournalIsAccepted (primary_run events (primary_opening settings disk tuple marks))
journal-run settings disk tuple marks events =
    keeps-run JournalIsAccepted JournalIsAccepted journal-kept (kept-by-releases JournalIsAccepted JournalIsAccepted (λ h marks all. all)) events
    (primary_opening settings disk tuple marks) (λ n entry at. absurd (cc))
