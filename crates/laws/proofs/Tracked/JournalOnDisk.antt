-- The journal has writes that are on the local disk: they are on it when they are completed, and an outcome that is put down stays.
use Rattle.std.proofs.Common.{ℕ, ◌≡◌, inl, inr, Bool, true, false, ◌&&◌, List, [], ◌∷◌, ◌++◌, length, map, Option, Some, None, slice_get, refl, sym, ◌∙◌}
use Rattle.std.proofs.Common.{ap, subst}
use Rattle.std.specs.Prelude.{option_map}
use Rattle.std.proofs.lemmas.Bool.{and_parts}
use Rattle.std.proofs.lemmas.Option.{slice_get-map}
use Rattle.blocks.specs.declared.settings.Settings.{Settings}
use Rattle.blocks.specs.declared.tuple.Tuple.{Tuple}
use Rattle.blocks.specs.declared.outcome.Decision.{Decision}
use Rattle.blocks.specs.declared.outcome.Decision.TheVariants.{NoSync, BitmapSync, FullSync}
use Rattle.model.specs.Contents.{BlockMap}
use Rattle.model.specs.Stream.{within}
use Rattle.model.specs.Primary.{LocalOutcome, Waiting, OnDisk, Failed, Accepted, Completion, PrimaryHistory, primary_opening, primary_connection, last_index}
use Rattle.model.specs.Primary.{is_established, is_on_disk, is_open, completes}
use Rattle.model.specs.PrimarySteps.{newly_completed, completion_of, with_completions, submission, submitted, submitted_with, set_outcome, with_outcome}
use Rattle.model.specs.PrimarySteps.{accepted_at, faulted, faulted_by, is_unfinished}
use Rattle.model.specs.Acknowledgements.{begun_with}
use Rattle.model.specs.LocalRuns.{PrimaryEvent, primary_run}
use Rattle.laws.specs.Statements.{IsOfWriteOnDisk}
use Rattle.laws.proofs.Rules.Completions.{completes-parts}
use Rattle.laws.proofs.Primary.Moves.{IsKeptByMoves, kept-by-releases, following-from, keeps-run}
use Rattle.laws.proofs.Primary.Homes.{HasHomes}
use Rattle.laws.proofs.Primary.HomesMoves.{homes-kept, homes-marks, homes-opening}
use Rattle.laws.proofs.Lists.Elements.{get-left, get-split}
use Rattle.laws.proofs.Lists.Picks.{pick-filtered, pick-image}
use Rattle.laws.proofs.Tracked.Outcomes.{waiting-not-done, unfinished-waits, outcome-cases}

-- each entry of the journal is of a write that the local disk has
abbrev OnDiskAll : PrimaryHistory → Type 0
OnDiskAll h = (n : ℕ) (entry : Completion) → slice_get h.journal n ≡ Some entry → IsOfWriteOnDisk h entry

-- the outcome that `is_on_disk` tells
done-is : (outcome : LocalOutcome) → is_on_disk outcome ≡ true → outcome ≡ OnDisk
done-is Waiting done = absurd (cc)
done-is OnDisk done = refl
done-is (Failed offsets) done = absurd (cc)

-- what is completed now is on the disk
completions : (h : PrimaryHistory) → OnDiskAll h → OnDiskAll (with_completions h)
completions h all n entry at = elim (get-split h.journal (map (completion_of h) (newly_completed h)) n entry at) [
  | inl old ↦ let was = all n entry old in record {
    index = was.index;
    accepted = was.accepted;
    there = was.there;
    write = was.write;
    outcome = was.outcome;
  }
  | inr new ↦
      let of = pick-image (completion_of h) (newly_completed h) new.0 entry new.2 in
      let there = pick-filtered (λ accepted. is_open h accepted && completes h accepted) h.writes new.0 of.0 of.1 in
      record {
        index = there.0;
        accepted = of.0;
        there = there.1;
        write = ap (λ (c : Completion). c.write) (sym of.2);
        outcome = done-is of.0.outcome (completes-parts h of.0 (and_parts (is_open h of.0) (completes h of.0) there.2).1).0;
      }
]

-- the same writes and journal
same : (h later : PrimaryHistory) → later.writes ≡ h.writes → later.journal ≡ h.journal → OnDiskAll h → OnDiskAll later
same h later writes journal all n entry at =
    let was = all n entry (subst (λ (l : List Completion). slice_get l n ≡ Some entry) journal at) in record {
      index = was.index;
      accepted = was.accepted;
      there = subst (λ (l : List Accepted). slice_get l was.index ≡ Some was.accepted) (sym writes) was.there;
      write = was.write;
      outcome = was.outcome;
    }

-- a write more leaves those that are there
more : (h later : PrimaryHistory) (added : Accepted) → later.writes ≡ h.writes ++ added ∷ [] → later.journal ≡ h.journal → OnDiskAll h → OnDiskAll later
more h later added writes journal all n entry at =
    let was = all n entry (subst (λ (l : List Completion). slice_get l n ≡ Some entry) journal at) in record {
      index = was.index;
      accepted = was.accepted;
      there = subst (λ (l : List Accepted). slice_get l was.index ≡ Some was.accepted) (sym writes)
          (get-left h.writes (added ∷ []) was.index was.accepted was.there);
      write = was.write;
      outcome = was.outcome;
    }

submits : (h : PrimaryHistory) (first : ℕ) (contents : List (List ℕ)) → OnDiskAll h → OnDiskAll (submitted h first contents)
submits h first contents all = go (is_established (primary_connection h))
  where
    go : (b : Bool) → OnDiskAll (submitted_with b h first contents)
    go true = more h (submitted_with true h first contents) (record {
      write = submission h first contents;
      journal_length = length h.journal;
      home = Some (record { index = last_index h.connections; place = length (primary_connection h).stream });
      outcome = Waiting;
    }) refl refl all
    go false = more h (submitted_with false h first contents)
        (record { write = submission h first contents; journal_length = length h.journal; home = None; outcome = Waiting }) refl refl all

-- An outcome is put down with a write that waits, so one that is on the disk keeps its own.
outcomes : (h later : PrimaryHistory) (number : ℕ) (outcome : LocalOutcome) → is_unfinished h number ≡ true → HasHomes h
    → later.writes ≡ map (set_outcome number outcome) h.writes → later.journal ≡ h.journal → OnDiskAll h → OnDiskAll later
outcomes h later number outcome unfinished homes writes journal all n entry at =
    let was = all n entry (subst (λ (l : List Completion). slice_get l n ≡ Some entry) journal at) in
    let a : Accepted = was.accepted in
    let stays : set_outcome number outcome a ≡ a = elim (outcome-cases number outcome a) [
      | inl changed ↦ absurd (waiting-not-done a.outcome (unfinished-waits h number was.index a homes unfinished was.there changed.0) (ap is_on_disk was.outcome))
      | inr kept ↦ kept
    ] in
    record {
      index = was.index;
      accepted = a;
      there = subst (λ (l : List Accepted). slice_get l was.index ≡ Some a) (sym writes)
          (slice_get-map (set_outcome number outcome) h.writes was.index ∙ ap (option_map (set_outcome number outcome)) was.there
          ∙ ap (λ (x : Accepted). Some x) stays);
      write = was.write;
      outcome = was.outcome;
    }

faults : (h : PrimaryHistory) (number : ℕ) (offsets : List ℕ) → is_unfinished h number ≡ true → HasHomes h → OnDiskAll h → OnDiskAll (faulted number offsets h)
faults h number offsets unfinished homes all = go (accepted_at h number)
  where
    go : (v : Option Accepted) → OnDiskAll (faulted_by v number offsets h)
    go None = all
    go (Some accepted) = outcomes h (faulted_by (Some accepted) number offsets h) number (Failed (within (length accepted.write.contents) offsets)) unfinished homes
        refl refl all

begins : (h : PrimaryHistory) (decided : Decision) → OnDiskAll h → OnDiskAll (begun_with decided h)
begins h NoSync all = same h (begun_with NoSync h) refl refl all
begins h BitmapSync all = same h (begun_with BitmapSync h) refl refl all
begins h FullSync all = same h (begun_with FullSync h) refl refl all

-- with the homes, by which a number is that of one write
abbrev Known : PrimaryHistory → Type 0
Known h = HasHomes h × OnDiskAll h

-- Every move keeps it.
on-disk-kept : IsKeptByMoves Known Known
on-disk-kept = record {
  following = λ h p. (
    homes-kept.following h p.0,
    following-from OnDiskAll OnDiskAll OnDiskAll completions (λ g over all. same g _ refl refl all) (λ g on all. all) (λ g over all. same g _ refl refl all)
        (λ g all. all) h p.1,
  );
  opens = λ h sync loss closed fresh p. (homes-kept.opens h sync loss closed fresh p.0, same h _ refl refl p.1);
  submits = λ h first contents may p. (homes-kept.submits h first contents may p.0, submits h first contents p.1);
  writes = λ h number waiting p. (
    homes-kept.writes h number waiting p.0,
    outcomes h (with_outcome number OnDisk h) number OnDisk waiting p.0 refl refl p.1,
  );
  faults = λ h number offsets waiting p. (homes-kept.faults h number offsets waiting p.0, faults h number offsets waiting p.0 p.1);
  sends = λ h standing due p. (homes-kept.sends h standing due p.0, same h _ refl refl p.1);
  greets = λ h frame standing new met p. (homes-kept.greets h frame standing new met p.0, same h _ refl refl p.1);
  begins = λ h peer decided standing new late is words p. (
    homes-kept.begins h peer decided standing new late is words p.0,
    begins _ decided (same h _ refl refl p.1),
  );
  receives = λ h ack standing begun may p. (homes-kept.receives h ack standing begun may p.0, same h _ refl refl p.1);
  applies = λ h ack standing begun may p. (homes-kept.applies h ack standing begun may p.0, same h _ refl refl p.1);
  clears = λ h ack standing begun may p. (homes-kept.clears h ack standing begun may p.0, same h _ refl refl p.1);
  confirms = λ h number size standing begun turn p. (homes-kept.confirms h number size standing begun turn p.0, same h _ refl refl p.1);
  refuses = λ h frame peer standing p. (homes-kept.refuses h frame peer standing p.0, same h _ refl refl p.1);
  resyncs = λ h block read fits runs alone is p. (homes-kept.resyncs h block read fits runs alone is p.0, same h _ refl refl p.1);
  closes = λ h standing p. (homes-kept.closes h standing p.0, same h _ refl refl p.1);
  receipts = λ h number p. (homes-kept.receipts h number p.0, same h _ refl refl p.1);
}

-- Every run of a primary keeps it.
pub journal-on-disk-run : (settings : Settings) (disk : BlockMap) (tuple : Tuple) (marks : ℕ → Bool) (events : List PrimaryEvent)
    → OnDiskAll (primary_run events (primary_opening settings disk tuple marks))
journal-on-disk-run settings disk tuple marks events =
    (keeps-run Known Known on-disk-kept (kept-by-releases Known Known (λ h marks p. (homes-marks h marks p.0, same h _ refl refl p.1))) events
    (primary_opening settings disk tuple marks) (homes-opening settings disk tuple marks, λ n entry at. absurd (cc))).1
