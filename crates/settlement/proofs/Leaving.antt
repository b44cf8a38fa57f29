-- What two joined nodes leave at rest is a case of what a stop may leave: both disks as they are, and the primary's marks. Both ends are
-- closed, so the identifiers of a stop are those that the primary has, and each block under an unreleased write is marked.
use Rattle.std.proofs.Common.{◌≡◌, Bool, true, not, ◌&&◌, List, sym, ◌∙◌, ap, subst, refl}
use Rattle.std.specs.Prelude.{is_none, is_ok, if◌then◌else◌}
use Rattle.std.proofs.lemmas.Bool.{and_parts}
use Rattle.blocks.specs.Identifiers.{decision, lost}
use Rattle.blocks.specs.declared.settings.Settings.{Settings}
use Rattle.blocks.specs.declared.tuple.Tuple.{Tuple}
use Rattle.settlement.specs.Left.{JoinedRunsLeaveAnOpening, JoinedRunsLeaveASoundOpening, JoinedRunsLeaveNoPart}
use Rattle.settlement.proofs.Sized.{local-disk, peer-disk}
use Rattle.laws.proofs.Joining.Openings.{HasOpening, HasOpeningToo, kept-opening-primary, kept-opening-secondary}
use Rattle.laws.proofs.Theorems.PrimaryReflects.{marks_at_rest}
use Rattle.model.specs.Contents.{IsDisk}
use Rattle.model.specs.Headline.{IsJoined}
use Rattle.model.specs.LocalRuns.{PrimaryEvent, primary_run, SecondaryEvent, secondary_run}
use Rattle.model.specs.Primary.{PrimaryHistory, primary_connection, local_map, next_local}
use Rattle.model.specs.Secondary.{SecondaryHistory, secondary_connection, is_drained, secondary_map}
use Rattle.model.specs.Settlement.{is_at_rest}
use Rattle.model.specs.Theorems.{Opening, IsSoundOpening, primary_at, secondary_at}
use Rattle.stops.proofs.CurrentIdentifier.{current-above}
use Rattle.stops.proofs.Stopping as stop
use Rattle.stops.proofs.Unparted as unparted
use Rattle.stops.specs.Stops.{Stopped, MayBeLeft, left_at, stopped_tuple, unknown}

module _ (o : Opening) (here : List PrimaryEvent) (there : List SecondaryEvent) (sound : IsSoundOpening o)
    (joined : IsJoined (primary_run here (primary_at o)) (secondary_run there (secondary_at o)))
    (rest : is_at_rest (primary_run here (primary_at o)) (secondary_run there (secondary_at o)) ≡ true) where
  abbrev p : PrimaryHistory
  p = primary_run here (primary_at o)

  abbrev s : SecondaryHistory
  s = secondary_run there (secondary_at o)

  -- nothing is under way
  abbrev stopped : Stopped o
  stopped = record { here = here; there = there; done = there; joined = joined; joined_done = joined }

  mine : HasOpening o (primary_run here (primary_at o))
  mine = kept-opening-primary o here

  theirs : HasOpeningToo o (secondary_run there (secondary_at o))
  theirs = kept-opening-secondary o there

  shut : (primary_connection (primary_run here (primary_at o))).closed ≡ true
  shut = (and_parts (primary_connection p).closed (secondary_connection s).closed
      (and_parts ((primary_connection p).closed && (secondary_connection s).closed) (is_drained s && is_none (next_local p)) rest).0).0

  left : MayBeLeft (primary_run here (primary_at o)) (secondary_run there (secondary_at o)) (secondary_run there (secondary_at o))
      (primary_run here (primary_at o)).marks (local_map (primary_run here (primary_at o))) (secondary_map (secondary_run there (secondary_at o)))
  left = record {
    local_disk = subst (λ (x : Settings). IsDisk x.blocks (local_map p)) (sym mine.settings) (local-disk o here sound.ranges sound.local);
    peer_disk = subst (λ (x : Settings). IsDisk x.blocks (secondary_map s)) (sym theirs.settings) (peer-disk o there sound.peer);
    covered = λ block inside covered. (and_parts _ (p.marks block)
        (marks_at_rest o here sound.ranges sound.local (ap (λ b. not b && (primary_connection p).begun) shut) block covered)).1;
    here = λ block clean. refl;
    there = λ block clean still. refl;
  }

  present : stopped_tuple (primary_run here (primary_at o)) ≡ (primary_run here (primary_at o)).tuple
  present = ap (λ b. if not b && (primary_connection p).begun then lost (primary_connection p).loss p.tuple else p.tuple) shut

pub leaves_an_opening : JoinedRunsLeaveAnOpening
leaves_an_opening o here there sound joined grounded rest peer =
    let p : PrimaryHistory = primary_run here (primary_at o) in
    let s : SecondaryHistory = secondary_run there (secondary_at o) in
    ((stop.leaves_a_sound_opening o (stopped o here there sound joined rest) p.marks (local_map p) (secondary_map s) sound
    (left o here there sound joined rest)).1 grounded).1 p.tuple peer (current-above o here sound.identifiers.own_data)

pub leaves_a_sound_opening : JoinedRunsLeaveASoundOpening
leaves_a_sound_opening o here there sound joined faithful rest =
    let p : PrimaryHistory = primary_run here (primary_at o) in
    let s : SecondaryHistory = secondary_run there (secondary_at o) in
    let known : Bool = s.consistent && is_ok (decision p.tuple s.tuple) in
    subst (λ (own : Tuple). IsSoundOpening (left_at p s p.marks (local_map p) (secondary_map s) own (if known then s.tuple else unknown)))
    (present o here there sound joined rest)
    ((stop.leaves_a_sound_opening o (stopped o here there sound joined rest) p.marks (local_map p) (secondary_map s) sound
    (left o here there sound joined rest)).0 faithful known)

pub leaves_no_part : JoinedRunsLeaveNoPart
leaves_no_part o here there sound joined whole rest =
    let p : PrimaryHistory = primary_run here (primary_at o) in
    let s : SecondaryHistory = secondary_run there (secondary_at o) in
    let first = (kept-opening-primary o here).tuple in
    let second = (kept-opening-secondary o there).tuple in
    let known : Bool = s.consistent && is_ok (decision p.tuple s.tuple) in
    subst (λ (own : Tuple). own.current ≡ (if known then s.tuple else unknown).current → own.bitmap ≡ 0) (present o here there sound joined rest)
    (unparted.leaves_no_part o (stopped o here there sound joined rest) p.marks (local_map p) (secondary_map s) known sound
    (λ same. ap (λ (t : Tuple). t.bitmap) (sym first)
    ∙ whole (ap (λ (t : Tuple). t.current) first ∙ same ∙ ap (λ (t : Tuple). t.current) (sym second)))
    (λ both. (and_parts s.consistent (is_ok (decision p.tuple s.tuple)) both).0))
