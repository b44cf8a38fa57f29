-- What a stop at any moment leaves is a sound opening.
use Rattle.std.proofs.Common.{ℕ, ◌≡◌, ◌<◌, inl, inr, Bool, true, false, not, ◌&&◌, List, [], ◌∷◌, ◌++◌, slice_get, Some, sym, ◌∙◌, ap, subst, refl, arith}
use Rattle.std.proofs.Common.{nat_lt}
use Rattle.std.specs.Prelude.{is_some, if◌then◌else◌, IsTrue}
use Rattle.std.proofs.lemmas.Bool.{lt-ltb, both_ways, cases_Bool}
use Rattle.blocks.specs.Identifiers.{lost}
use Rattle.blocks.specs.SettingsRange.{IsInRange}
use Rattle.blocks.specs.declared.settings.Settings.{Settings}
use Rattle.blocks.specs.declared.tuple.Tuple.{Tuple}
use Rattle.laws.specs.Reflections.{NoneBegan}
use Rattle.laws.proofs.Accounted.Released.{accounted-run}
use Rattle.laws.proofs.Blocks.SameBlocks.{same-equal, equal-same}
use Rattle.laws.proofs.Joining.Openings.{HasOpening, HasOpeningToo, kept-opening-primary, kept-opening-secondary}
use Rattle.laws.proofs.Lists.Beginnings.{get-beginning}
use Rattle.laws.proofs.Lists.Last.{last-at}
use Rattle.laws.proofs.Lists.Picks.{any-pick}
use Rattle.laws.proofs.Primary.LawfulMoves.{primary-between}
use Rattle.laws.proofs.Secondary.Tuples.{secondary_tuple}
use Rattle.laws.proofs.WriteOrder.Ends.{primary-connection-of}
use Rattle.model.specs.Contents.{BlockMap}
use Rattle.model.specs.Headline.{Cover, IsGrounded, opening_marked}
use Rattle.model.specs.Pair.{same_block}
use Rattle.model.specs.LocalRuns.{Closes, primary_run}
use Rattle.model.specs.Primary.{PrimaryConnection, PrimaryHistory, no_primary_connection, primary_connection, last_of}
use Rattle.model.specs.Secondary.{SecondaryConnection, SecondaryHistory, items_taken}
use Rattle.model.specs.Stream.{StreamItem}
use Rattle.model.specs.Theorems.{Opening, IsSoundOpening, marks_at, primary_at}
use Rattle.stops.proofs.Closed.{IsShut, shut-close}
use Rattle.stops.proofs.Covering.{covers_all}
use Rattle.stops.proofs.CurrentIdentifier.{current-above}
use Rattle.stops.proofs.Unparted.{run-more, leaves_no_part}
use Rattle.stops.specs.Stops.{Stopped, MayBeLeft, StopsLeaveASoundOpening, ChainsStaySound, PromotionsAreSound, IsUnparted, IsLeftBy, left_at}
use Rattle.stops.specs.Stops.{stopped_tuple, known_at, unknown, primary_of, secondary_of, done_of}

-- an identifier above 0 that the peer's disk is given is its own
current-own : (known : Bool) (t : Tuple) (n : ℕ) → 0 < n → (if known then t else unknown).current ≡ n → t.current ≡ n
current-own true t n some is = is
current-own false t n some is = absurd (let zero : 0 ≡ n = is in omega arith)

module _ (o : Opening) (w : Stopped o) (marks : ℕ → Bool) (local peer : BlockMap) (sound : IsSoundOpening o)
    (left : MayBeLeft (primary_of o w) (secondary_of o w) (done_of o w) marks local peer) where
  abbrev p : PrimaryHistory
  p = primary_of o w

  abbrev s : SecondaryHistory
  s = secondary_of o w

  -- the marks cover every block on which the disks differ
  abbrev Covered : Type 0
  Covered = Cover (known_at (primary_of o w) marks) local peer

  covered : IsGrounded (primary_of o w) (secondary_of o w) → Covered
  covered = covers_all o w marks local peer sound left

  mine : HasOpening o (primary_of o w)
  mine = kept-opening-primary o w.here

  theirs : HasOpeningToo o (secondary_of o w)
  theirs = kept-opening-secondary o w.there

  -- The opening is sound with identifiers that claim no more than the marks cover.
  leaves-with : (own other : Tuple) → 0 < own.current → (other.current ≡ own.current → Covered)
      → (0 < own.bitmap → other.current ≡ own.bitmap → Covered)
      → IsSoundOpening (left_at (primary_of o w) (secondary_of o w) marks local peer own other)
  leaves-with own other some current bitmap = record {
    ranges = record { here = subst IsInRange (sym mine.settings) sound.ranges.here; there = subst IsInRange (sym theirs.settings) sound.ranges.there };
    local = left.local_disk;
    peer = left.peer_disk;
    identifiers = record { own_data = some; same_current = current; from_bitmap = bitmap };
  }

  pub leaves-grounded : IsGrounded (primary_of o w) (secondary_of o w) → (own other : Tuple) → 0 < own.current
      → IsSoundOpening (left_at (primary_of o w) (secondary_of o w) marks local peer own other)
  leaves-grounded grounded own other some = leaves-with own other some (λ is. covered grounded) (λ above is. covered grounded)

  is-shut : IsShut (secondary_of o w) (stopped_tuple (primary_of o w)) (primary_run (w.here ++ Closes ∷ []) (primary_at o))
  is-shut = subst (IsShut s (stopped_tuple p)) (sym (run-more w.here Closes (primary_at o))) (shut-close s p w.joined)

  above : 0 < (stopped_tuple (primary_of o w)).current
  above = subst (λ (t : Tuple). 0 < t.current) is-shut.tuple (current-above o (w.here ++ Closes ∷ []) sound.identifiers.own_data)

  -- where no stream began, the secondary took nothing
  took-nothing : NoneBegan (primary_of o w) → (j : ℕ) (d : SecondaryConnection) → slice_get (secondary_of o w).connections j ≡ Some d → items_taken d ≡ []
  took-nothing none j d at = go (items_taken d) refl
    where
      go : (items : List StreamItem) → items_taken d ≡ items → items_taken d ≡ []
      go [] is = is
      go (item ∷ items) is = absurd (
          let first : slice_get (items_taken d) 0 ≡ Some item = ap (λ (l : List StreamItem). slice_get l 0) is in
          let end = primary-connection-of o w.here w.there w.joined j 0 d item at first in
          let homes = (primary-between o.settings o.local o.own o.marks w.here sound.ranges.here).0 in
          let empty = homes.empty end.0 end.1 end.2.primary_connection (none.none end.0 end.1 end.2.primary_connection) in
          let sent = get-beginning (items_taken d) end.1.stream 0 item end.3 first in
          let nothing : slice_get [] 0 ≡ Some item = subst (λ (l : List StreamItem). slice_get l 0 ≡ Some item) empty sent in
          cc (nothing))

  -- so it has the identifiers of its opening
  peer-stays : NoneBegan (primary_of o w) → (secondary_of o w).tuple ≡ o.peer_tuple
  peer-stays none = secondary_tuple o.peer_settings o.peer o.peer_tuple w.there (took-nothing none)

  -- and the primary stops with those of its own
  own-stays : NoneBegan (primary_of o w) → stopped_tuple (primary_of o w) ≡ o.own
  own-stays none = go (primary_connection p).begun refl
    where
      none-there : (primary_connection (primary_of o w)).begun ≡ true → ⊥
      none-there begun = elim (last-at (no_primary_connection p.tuple) p.connections) [
        | inl empty ↦ both_ways (primary_connection p).begun (ap (λ (l : List PrimaryConnection). (last_of (no_primary_connection p.tuple) l).begun) empty) begun
        | inr at ↦ both_ways (primary_connection p).begun (none.none _ (primary_connection p) at) begun
      ]

      go : (b : Bool) → (primary_connection (primary_of o w)).begun ≡ b → stopped_tuple (primary_of o w) ≡ o.own
      go true begun = absurd (none-there begun)
      go false begun = still (not (primary_connection p).closed) ∙ (none.tuple ∙ mine.tuple)
        where
          still : (b : Bool) → (if b && (primary_connection (primary_of o w)).begun then lost (primary_connection (primary_of o w)).loss (primary_of o w).tuple
              else (primary_of o w).tuple) ≡ (primary_of o w).tuple
          still true = ap (λ c. if c then lost (primary_connection p).loss p.tuple else p.tuple) begun
          still false = refl

  -- marks that cover the differences of the opening are a ground
  ground : IsTrue (primary_of o w).faithful → Cover (marks_at o) o.local o.peer → IsGrounded (primary_of o w) (secondary_of o w)
  ground faithful cover = (
    faithful,
    inr (subst (λ (m : BlockMap). Cover (opening_marked p) p.opening_map m) (sym theirs.disk)
        (subst (λ (m : BlockMap). Cover (opening_marked p) m o.peer) (sym mine.disk)
        (subst (λ (m : ℕ → Bool). Cover (λ block. nat_lt block p.settings.blocks && m block) o.local o.peer) (sym mine.marks)
        (subst (λ (x : Settings). Cover (λ block. nat_lt block x.blocks && o.marks block) o.local o.peer) (sym mine.settings) cover)))),
  )

  pub leaves-known : IsTrue (primary_of o w).faithful → (known : Bool)
      → IsSoundOpening (left_at (primary_of o w) (secondary_of o w) marks local peer (stopped_tuple (primary_of o w))
      (if known then (secondary_of o w).tuple else unknown))
  leaves-known faithful known = elim (accounted-run o.settings o.local o.own o.marks w.here sound.ranges.here within).1.began [
    | inr first ↦ leaves-grounded (faithful, inl (any-pick (λ (c : PrimaryConnection). c.begun) p.connections first.1.connection first.1.end first.1.at first.1.begun))
        (stopped_tuple p) (if known then s.tuple else unknown) above
    | inl none ↦ leaves-with (stopped_tuple p) (if known then s.tuple else unknown) above
        (λ is. covered (ground faithful (sound.identifiers.same_current (
        ap (λ (t : Tuple). t.current) (sym (peer-stays none)) ∙ current-own known s.tuple (stopped_tuple p).current above is
        ∙ ap (λ (t : Tuple). t.current) (own-stays none)))))
        (λ some is. covered (ground faithful (sound.identifiers.from_bitmap (subst (λ (t : Tuple). 0 < t.bitmap) (own-stays none) some) (
        ap (λ (t : Tuple). t.current) (sym (peer-stays none)) ∙ current-own known s.tuple (stopped_tuple p).bitmap some is
        ∙ ap (λ (t : Tuple). t.bitmap) (own-stays none)))))
  ]
    where
      within : (block : ℕ) → block < o.settings.blocks → is_some (o.local block) ≡ true
      within block inside = sound.local block ∙ lt-ltb block o.settings.blocks inside

pub leaves_a_sound_opening : StopsLeaveASoundOpening
leaves_a_sound_opening o w marks local peer sound left = (
  leaves-known o w marks local peer sound left,
  λ grounded. (covers_all o w marks local peer sound left grounded, leaves-grounded o w marks local peer sound left grounded),
)

-- one session after another
next-sound : (o next : Opening) → IsSoundOpening o → IsUnparted o → IsLeftBy o next → IsSoundOpening next × IsUnparted next
next-sound o next sound unparted l = subst (λ (x : Opening). IsSoundOpening x × IsUnparted x) (sym l.opens) (
  leaves-known o l.stopped l.marks l.local l.peer sound l.left l.faithful l.known,
  leaves_no_part o l.stopped l.marks l.local l.peer l.known sound unparted l.consistent,
)

pub chains_stay_sound : ChainsStaySound
chains_stay_sound o [] sound unparted chain = tt
chains_stay_sound o (next ∷ rest) sound unparted chain =
    let now = next-sound o next sound unparted chain.0 in (now, chains_stay_sound next rest now.0 now.1 chain.1)

-- the roles changed
pub promotions_are_sound : PromotionsAreSound
promotions_are_sound o w marks local peer own other sound sizes left grounded some =
    let p : PrimaryHistory = primary_of o w in
    let s : SecondaryHistory = secondary_of o w in
    let cover : Cover (λ block. nat_lt block s.settings.blocks && marks block) peer local = λ block differs.
    subst (λ (n : ℕ). (nat_lt block n && marks block) ≡ true) sizes
    (covers_all o w marks local peer sound left grounded block (turned (local block) (peer block) differs)) in
    let base : IsSoundOpening (left_at p s marks local peer own other) = leaves-grounded o w marks local peer sound left grounded own other some in
    record {
      ranges = record { here = base.ranges.there; there = base.ranges.here };
      local = base.peer;
      peer = base.local;
      identifiers = record { own_data = some; same_current = λ is. cover; from_bitmap = λ above is. cover };
    }
  where
    turned : (a b : _) → same_block b a ≡ false → same_block a b ≡ false
    turned a b differs = elim (cases_Bool (same_block a b)) [
      | inl same ↦ absurd (both_ways (same_block b a) differs (equal-same b a (sym (same-equal a b same))))
      | inr is ↦ is
    ]
