-- What a run keeps of its opening: the settings, the opening disk, the opening tuple and the opening marks.
use Rattle.std.proofs.Common.{ℕ, ◌≡◌, Bool, true, false, List, ◌∷◌, [], Option, Some, None, Ok, refl, ◌∙◌}
use Rattle.blocks.specs.declared.tuple.Tuple.{Tuple}
use Rattle.blocks.specs.declared.outcome.Decision.{Decision}
use Rattle.blocks.specs.declared.outcome.Decision.TheVariants.{NoSync, BitmapSync, FullSync}
use Rattle.model.specs.Frames.{UuidsFrame}
use Rattle.model.specs.Primary.{Accepted, PrimaryHistory, primary_connection, with_primary_connection, is_established}
use Rattle.model.specs.PrimarySteps.{submitted, faulted, accepted_at, submitted_with, faulted_by}
use Rattle.model.specs.Acknowledgements.{begun_with}
use Rattle.model.specs.Secondary.{SecondaryHistory}
use Rattle.model.specs.LocalRuns.{PrimaryEvent, primary_run, SecondaryEvent, secondary_after, secondary_run}
use Rattle.model.specs.Theorems.{Opening, primary_at, secondary_at}
use Rattle.laws.proofs.Primary.Moves.{following-from, IsKeptByMoves, IsKeptByReleases, kept-by-releases, keeps-run, with_frame}
use Rattle.laws.proofs.Secondary.Moves.{after-event}

-- A primary's history that began at this opening.
pub record HasOpening (o : Opening) (h : PrimaryHistory) : Type 0 where
  pub settings : h.settings ≡ o.settings
  pub disk : h.opening_map ≡ o.local
  pub marks : h.opening_marks ≡ o.marks
  pub tuple : h.opening_tuple ≡ o.own

-- a move that changes none of the four
kept : (o : Opening) (h later : PrimaryHistory) → later.settings ≡ h.settings → later.opening_map ≡ h.opening_map → later.opening_marks ≡ h.opening_marks
    → later.opening_tuple ≡ h.opening_tuple → HasOpening o h → HasOpening o later
kept o h later settings disk marks tuple a = record { settings = settings ∙ a.settings; disk = disk ∙ a.disk; marks = marks ∙ a.marks; tuple = tuple ∙ a.tuple }

kept-submits : (o : Opening) (h : PrimaryHistory) (first : ℕ) (contents : List (List ℕ)) → HasOpening o h → HasOpening o (submitted h first contents)
kept-submits o h first contents a = go (is_established (primary_connection h))
  where
    go : (b : Bool) → HasOpening o (submitted_with b h first contents)
    go true = kept o h _ refl refl refl refl a
    go false = kept o h _ refl refl refl refl a

kept-faults : (o : Opening) (h : PrimaryHistory) (number : ℕ) (offsets : List ℕ) → HasOpening o h → HasOpening o (faulted number offsets h)
kept-faults o h number offsets a = go (accepted_at h number)
  where
    go : (v : Option Accepted) → HasOpening o
        (faulted_by v number offsets h)
    go None = a
    go (Some accepted) = kept o h _ refl refl refl refl a

kept-begins : (o : Opening) (h : PrimaryHistory) (peer : Tuple) (decided : Decision) → HasOpening o h
    → HasOpening o (begun_with decided (record (with_primary_connection (with_frame (Ok (UuidsFrame peer))) h) { peer = Some peer }))
kept-begins o h peer decided a = go decided
  where
    go : (v : Decision) → HasOpening o (begun_with v (record (with_primary_connection (with_frame (Ok (UuidsFrame peer))) h) { peer = Some peer }))
    go NoSync = kept o h _ refl refl refl refl a
    go BitmapSync = kept o h _ refl refl refl refl a
    go FullSync = kept o h _ refl refl refl refl a

opening-kept : (o : Opening) → IsKeptByMoves (HasOpening o) (HasOpening o)
opening-kept o = record {
  following =
      following-from (HasOpening o) (HasOpening o) (HasOpening o) (λ h a. kept o h _ refl refl refl refl a) (λ g over a. kept o g _ refl refl refl refl a)
      (λ g on a. a) (λ g over a. kept o g _ refl refl refl refl a) (λ g a. a);
  opens = λ h sync loss closed fresh a. kept o h _ refl refl refl refl a;
  submits = λ h first contents may a. kept-submits o h first contents a;
  writes = λ h number waiting a. kept o h _ refl refl refl refl a;
  faults = λ h number offsets waiting a. kept-faults o h number offsets a;
  sends = λ h standing due a. kept o h _ refl refl refl refl a;
  greets = λ h frame standing new met a. kept o h _ refl refl refl refl a;
  begins = λ h peer decided standing new late is fresh a. kept-begins o h peer decided a;
  receives = λ h ack standing begun may a. kept o h _ refl refl refl refl a;
  applies = λ h ack standing begun may a. kept o h _ refl refl refl refl a;
  clears = λ h ack standing begun may a. kept o h _ refl refl refl refl a;
  confirms = λ h number size standing begun turn a. kept o h _ refl refl refl refl a;
  refuses = λ h frame peer standing a. kept o h _ refl refl refl refl a;
  resyncs = λ h block read may runs alone is a. kept o h _ refl refl refl refl a;
  closes = λ h standing a. kept o h _ refl refl refl refl a;
  receipts = λ h number a. kept o h _ refl refl refl refl a;
}

opening-released : (o : Opening) → IsKeptByReleases (HasOpening o) (HasOpening o)
opening-released o = kept-by-releases (HasOpening o) (HasOpening o) (λ h marks a. kept o h _ refl refl refl refl a)

-- Every run of a primary keeps its opening.
pub kept-opening-primary : (o : Opening) (here : List PrimaryEvent) → HasOpening o (primary_run here (primary_at o))
kept-opening-primary o here = keeps-run (HasOpening o) (HasOpening o) (opening-kept o) (opening-released o) here (primary_at o)
    (record { settings = refl; disk = refl; marks = refl; tuple = refl })

-- A secondary's history that began at this opening.
pub record HasOpeningToo (o : Opening) (h : SecondaryHistory) : Type 0 where
  pub settings : h.settings ≡ o.peer_settings
  pub disk : h.opening_map ≡ o.peer
  pub tuple : h.opening_tuple ≡ o.peer_tuple

-- a step that changes none of the three
kept-too : (o : Opening) (h later : SecondaryHistory) → later.settings ≡ h.settings → later.opening_map ≡ h.opening_map → later.opening_tuple ≡ h.opening_tuple
    → HasOpeningToo o h → HasOpeningToo o later
kept-too o h later settings disk tuple a = record { settings = settings ∙ a.settings; disk = disk ∙ a.disk; tuple = tuple ∙ a.tuple }

kept-after : (o : Opening) (event : SecondaryEvent) (h : SecondaryHistory) → HasOpeningToo o h → HasOpeningToo o (secondary_after event h)
kept-after o event h a = after-event (HasOpeningToo o) h event (record {
  same = a;
  opens = λ unseen was. kept-too o h _ refl refl refl a;
  takes = λ frame standing. record {
    accepts = kept-too o h _ refl refl refl a;
    receipts = λ write at is late. kept-too o h _ refl refl refl a;
    adopts = λ item tuple consistent is late. kept-too o h _ refl refl refl a;
    refuses = kept-too o h _ refl refl refl a;
  };
  applies = λ place waiting first. kept-too o h _ refl refl refl a;
  fails = λ place offsets waiting first. kept-too o h _ refl refl refl a;
  pushes = λ standing due. kept-too o h _ refl refl refl a;
  closes = λ standing. kept-too o h _ refl refl refl a;
})

kept-from : (o : Opening) (there : List SecondaryEvent) (h : SecondaryHistory) → HasOpeningToo o h → HasOpeningToo o (secondary_run there h)
kept-from o [] h a = a
kept-from o (event ∷ there) h a = kept-from o there (secondary_after event h) (kept-after o event h a)

-- Every run of a secondary keeps its opening.
pub kept-opening-secondary : (o : Opening) (there : List SecondaryEvent) → HasOpeningToo o (secondary_run there (secondary_at o))
kept-opening-secondary o there = kept-from o there (secondary_at o) (record { settings = refl; disk = refl; tuple = refl })
