-- What a stop leaves of both files and disks is a sound opening.
use Rattle.std.proofs.Common.{ℕ, ◌≡◌, ◌<◌, inl, inr, Bool, true, false, not, ◌&&◌, List, Ok, refl, sym, ◌∙◌, ap, subst}
use Rattle.std.specs.Prelude.{IsTrue, if◌then◌else◌}
use Rattle.std.proofs.lemmas.Bool.{and_parts, both_ways, or_left, or_right}
use Rattle.blocks.specs.declared.tuple.Tuple.{Tuple}
use Rattle.kept_nodes.specs.Again.{BrokenFilesCover, FilesLeaveASoundOpening, HoldOutside, PrimariesSaySo, SecondariesSaySo, peer_tuple}
use Rattle.kept_nodes.specs.Kept.{CoversPrimary}
use Rattle.kept_nodes.specs.Left.{IsKnown, Outcomes, known_in}
use Rattle.metadata.specs.Says.{entered_in, marked_in, opened_identifiers}
use Rattle.metadata.specs.State.{MetadataState, Stands}
use Rattle.metadata.specs.declared.identifiers.Identifiers.{Identifiers}
use Rattle.model.specs.Contents.{BlockMap, extent_of}
use Rattle.model.specs.Headline.{is_covered}
use Rattle.model.specs.Primary.{PrimaryHistory}
use Rattle.model.specs.Secondary.{SecondaryHistory}
use Rattle.model.specs.Theorems.{IsSoundOpening}
use Rattle.stops.proofs.Stopping.{leaves_a_sound_opening}
use Rattle.stops.proofs.Unparted.{leaves_no_part}
use Rattle.stops.specs.Stops.{IsUnparted, MayBeLeft, done_of, left_at, primary_of, secondary_of, stopped_tuple, unknown}

-- a block that each outcome has is known in this one
known-here : (outcomes : List ℕ → Type 0) (block : ℕ) (c : List ℕ) → outcomes c → IsKnown outcomes block → known_in c block ≡ true
known-here outcomes block c left (inl entered) = or_left (entered_in c (extent_of block)) (marked_in c block) (entered c left)
known-here outcomes block c left (inr marked) = or_right (entered_in c (extent_of block)) (marked_in c block) (marked c left)

-- what a stop may leave of the disks, with the marks that the primary's file has
may-be-left : (p : PrimaryHistory) (s after : SecondaryHistory) (marks : ℕ → Bool) (local peer : BlockMap) → HoldOutside p s after marks local peer
    → ((block : ℕ) → block < p.settings.blocks → is_covered p block ≡ true → marks block ≡ true) → MayBeLeft p s after marks local peer
may-be-left p s after marks local peer held covered =
    record { local_disk = held.local_disk; peer_disk = held.peer_disk; covered = covered; here = held.here; there = held.there }

module _ {F : Type 0} (seen : F → List ℕ) (may_leave : F → List ℕ → Type 0) (faithful : F → Bool) where
  -- the file has each block that is covered
  file-covers : (m : MetadataState F) (p : PrimaryHistory) (c : List ℕ) → IsTrue (faithful m.file)
      → CoversPrimary (faithful m.file) (Outcomes seen may_leave m) m false p
      → Outcomes seen may_leave m c → (block : ℕ) → block < p.settings.blocks → is_covered p block ≡ true → known_in c block ≡ true
  file-covers m p c still covers left block within is = known-here (Outcomes seen may_leave m) block c left (covers.covered still refl block within is)

  pub broken_files_cover : BrokenFilesCover seen may_leave faithful
  broken_files_cover o w m file local peer stop =
      let left = may-be-left (primary_of o w) (secondary_of o w) (done_of o w) (known_in file) local peer stop.held
      (file-covers m (primary_of o w) file stop.still stop.covers stop.left) in
      (left, λ grounded. ((leaves_a_sound_opening o w (known_in file) local peer stop.sound left).1 grounded).1)

  -- whatever a stop leaves of a file opens with what is saved
  opens-saved : (m : MetadataState F) (c : List ℕ) → Stands m.header m.identifiers m.entries (seen m.file) (may_leave m.file) → Outcomes seen may_leave m c
      → opened_identifiers c ≡ Ok m.identifiers
  opens-saved m c stands (inl now) = ap opened_identifiers now.1 ∙ stands.opens.identifiers
  opens-saved m c stands (inr left) = (stands.left c left).identifiers

-- what a secondary's disk is given is its own tuple, or that of an unknown disk
peer-is : (saved : Identifiers) (known : Bool) (own : Tuple) → saved.is_consistent ≡ known → saved.tuple ≡ own
    → peer_tuple saved ≡ (if known then own else unknown)
peer-is saved known own consistent tuple = rw (consistent, tuple) refl

pub files_leave_a_sound_opening : {F G : Type 0} (seen : F → List ℕ) (may_leave : F → List ℕ → Type 0) (faithful : F → Bool) (peer_seen : G → List ℕ)
    (peer_may_leave : G → List ℕ → Type 0) → FilesLeaveASoundOpening seen may_leave faithful peer_seen peer_may_leave
files_leave_a_sound_opening seen may_leave faithful peer_seen peer_may_leave o w m n is_doubted file peer_file local peer stop =
    let p : PrimaryHistory = primary_of o w in
    let s : SecondaryHistory = secondary_of o w in
    let known : Bool = s.consistent && not is_doubted in
    let left = may-be-left p s (done_of o w) (known_in file) local peer stop.held
    (file-covers seen may_leave faithful m p file stop.primary.still stop.primary.says.covers stop.left) in
    let own : m.identifiers.tuple ≡ stopped_tuple p = stop.primary.says.saved stop.primary.whole in
    let other : peer_tuple n.identifiers ≡ (if known then s.tuple else unknown)
    = peer-is n.identifiers known s.tuple (stop.secondary.says.consistent stop.secondary.whole) (stop.secondary.says.tuple stop.secondary.whole) in
    record {
      own = m.identifiers;
      other = n.identifiers;
      opens = opens-saved seen may_leave faithful m file stop.primary.stands stop.left;
      peer_opens = opens-saved peer_seen peer_may_leave (λ f. true) n peer_file stop.secondary.stands stop.peer_left;
      sound = subst (λ (t : Tuple). IsSoundOpening (left_at p s (known_in file) local peer t (peer_tuple n.identifiers))) (sym own)
          (subst (λ (t : Tuple). IsSoundOpening (left_at p s (known_in file) local peer (stopped_tuple p) t)) (sym other)
          ((leaves_a_sound_opening o w (known_in file) local peer stop.sound left).0 stop.copied known));
      unparted = λ before. subst (λ (t : Tuple). IsUnparted (left_at p s (known_in file) local peer t (peer_tuple n.identifiers))) (sym own)
          (subst (λ (t : Tuple). IsUnparted (left_at p s (known_in file) local peer (stopped_tuple p) t)) (sym other)
          (leaves_no_part o w (known_in file) local peer known stop.sound before (λ both. (and_parts s.consistent (not is_doubted) both).0)));
    }

-- The kept nodes themselves.

pub primaries_say_so : {F : Type 0} (seen : F → List ℕ) (may_leave : F → List ℕ → Type 0) (faithful : F → Bool) → PrimariesSaySo seen may_leave faithful
primaries_say_so seen may_leave faithful opening v m true kept whole still stands =
    absurd (both_ways m.is_broken whole (kept.says.covers.owes refl))
primaries_say_so seen may_leave faithful opening v m false kept whole still stands =
    (kept.history, kept.has, kept.began, record { whole = whole; still = still; says = kept.says; stands = stands })

pub secondaries_say_so : {F : Type 0} (seen : F → List ℕ) (may_leave : F → List ℕ → Type 0) → SecondariesSaySo seen may_leave
secondaries_say_so seen may_leave opening v m is_doubted kept whole stands =
    (kept.history, kept.has, kept.began, record { whole = whole; says = kept.says; stands = stands })
