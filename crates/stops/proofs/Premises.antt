-- Worked histories meet the premises of the laws. What computes is computed, over the blocks of the device; past its end both disks
-- have nothing.
use Rattle.std.proofs.Common.{ℕ, zero, suc, ◌≡◌, ◌+◌, ◌≤◌, ◌<◌, inl, inr, Bool, true, false, not, ◌&&◌, ◌||◌, nat_lt, nat_le, List, [], ◌∷◌, ◌++◌, length, map}
use Rattle.std.proofs.Common.{Option, Some, None}
use Rattle.std.proofs.Common.{slice_get, refl, sym, ◌∙◌, ap, subst, arith}
use Rattle.std.specs.Prelude.{is_some, if◌then◌else◌, IsTrue}
use Rattle.std.specs.List.{list_all}
use Rattle.std.proofs.lemmas.Bool.{cases_Bool, cases_lt, and_parts, both_ways, lt-ltb, le-ltb, ltb-true, leb-true, or_cases, false_from_ne_true}
use Rattle.blocks.specs.SettingsRange.{IsInRange, standard}
use Rattle.blocks.specs.declared.settings.Settings.{Settings}
use Rattle.laws.specs.Examples.{new_pair}
use Rattle.laws.proofs.Blocks.Overlays.{under-some, under-outside}
use Rattle.laws.proofs.Blocks.Ranges.{outside-range}
use Rattle.laws.proofs.Blocks.SameBlocks.{same-equal}
use Rattle.laws.proofs.Joining.Openings.{kept-opening-primary, kept-opening-secondary}
use Rattle.laws.proofs.Lists.Picks.{below-has}
use Rattle.laws.proofs.Theorems.PairIsJoined.{every_run_is_joined}
use Rattle.laws.proofs.Theorems.PremisesAreMet.{openings_are_met}
use Rattle.model.specs.Contents.{BlockMap, IsDisk, Layer, block_under, overlay, filled}
use Rattle.model.specs.Headline.{IsGrounded, IsJoined, is_covered}
use Rattle.model.specs.LocalRuns.{secondary_run}
use Rattle.model.specs.Pair.{Event, PairHistory, same_block, PeerEvent}
use Rattle.model.specs.Primary.{PrimaryHistory, local_layer, local_map}
use Rattle.model.specs.Rows.{after}
use Rattle.model.specs.Secondary.{SecondaryHistory, secondary_connection, secondary_map, items_taken}
use Rattle.model.specs.Stream.{below, layers_of}
use Rattle.model.specs.Theorems.{Opening, IsSoundOpening, pair_at, secondary_at}
use Rattle.stops.specs.Examples.{IsLeftAt, SessionsAreLeft, of_bytes, writing, amid_writes, copying_marked, amid_a_resync, copying_all, at_rest}
use Rattle.stops.specs.Examples.{ReturnIsMet, GrowthIsMet, first_alone, second_alone, returned}
use Rattle.stops.specs.Returns.{AllRanAlone, RanAlone, end_of, unmarked}
use Rattle.stops.proofs.Returning.{returns_stay_sound}
use Rattle.laws.specs.Statements.{AreJoinedRuns}
use Rattle.stops.specs.Stops.{Stopped, MayBeLeft, IsLeftBy, known_at, left_at, stopped_tuple, unknown, primary_of, secondary_of, done_of}

-- Disks.

lt-next : (a b : ℕ) → nat_lt a b ≡ nat_lt (suc a) (suc b)
lt-next a b = elim (cases_lt a b) [
  | inl less ↦ lt-ltb a b less ∙ sym (lt-ltb (suc a) (suc b) (omega arith))
  | inr not_less ↦ le-ltb a b not_less ∙ sym (le-ltb (suc a) (suc b) (omega arith))
]

-- a list of bytes is a disk of as many blocks
of-bytes-disk : (bytes : List ℕ) → IsDisk (length bytes) (of_bytes bytes)
of-bytes-disk [] block = elim (cases_Bool (nat_lt block 0)) [ inl less ↦ absurd (let l = ltb-true block 0 less in omega arith) | inr is ↦ sym is ]
of-bytes-disk (byte ∷ bytes) zero = sym (lt-ltb 0 (suc (length bytes)) (omega arith))
of-bytes-disk (byte ∷ bytes) (suc block) = of-bytes-disk bytes block ∙ lt-next block (length bytes)

-- a layer within the device
layer-disk : (blocks : ℕ) (layer : Layer) (block : ℕ) (v : Option (List ℕ)) → layer.first + length layer.contents ≤ blocks → is_some v ≡ nat_lt block blocks
    → is_some (block_under layer block v) ≡ nat_lt block blocks
layer-disk blocks layer block v inside same = elim (cases_lt block blocks) [
  | inl within ↦ under-some layer block v (same ∙ lt-ltb block blocks within) ∙ sym (lt-ltb block blocks within)
  | inr past ↦ ap is_some (under-outside layer block v (outside-range layer.first (length layer.contents) blocks block inside past)) ∙ same
]

-- layers within the device
overlay-disk : (blocks : ℕ) (base : BlockMap) (layers : List Layer) → IsDisk blocks base
    → list_all (λ (l : Layer). nat_le (l.first + length l.contents) blocks) layers ≡ true → IsDisk blocks (overlay base layers)
overlay-disk blocks base [] disk inside = disk
overlay-disk blocks base (layer ∷ layers) disk inside =
    let parts = and_parts (nat_le (layer.first + length layer.contents) blocks) (list_all (λ (l : Layer). nat_le (l.first + length l.contents) blocks) layers) inside in
    overlay-disk blocks (λ b. block_under layer b (base b)) layers
    (λ b. layer-disk blocks layer b (base b) (leb-true (layer.first + length layer.contents) blocks parts.0) (disk b)) parts.1

-- what is tested of each block of a device holds of each
each-block : (test : ℕ → Bool) (blocks block : ℕ) → list_all test (below blocks) ≡ true → block < blocks → test block ≡ true
each-block test blocks block all less = let there = below-has blocks block less in all-at (below blocks) there.0 all there.1
  where
    all-at : (xs : List ℕ) (n : ℕ) → list_all test xs ≡ true → slice_get xs n ≡ Some block → test block ≡ true
    all-at [] n all at = absurd (cc)
    all-at (x ∷ xs) zero all at = let same : x ≡ block = cc in subst (λ (b : ℕ). test b ≡ true) same (and_parts (test x) (list_all test xs) all).0
    all-at (x ∷ xs) (suc n) all at = all-at xs n (and_parts (test x) (list_all test xs) all).1 at

none-of : (v : Option (List ℕ)) → is_some v ≡ false → v ≡ None
none-of None is = refl
none-of (Some x) is = absurd (cc)

implied : (a b : Bool) → (not a || b) ≡ true → a ≡ true → b ≡ true
implied true b holds is = holds
implied false b holds is = absurd (cc)

-- two disks of one size that agree on each block that passes no test agree wherever it does not pass
agree-but : (blocks : ℕ) (test : ℕ → Bool) (a b : BlockMap) → IsDisk blocks a → IsDisk blocks b
    → list_all (λ block. test block || same_block (a block) (b block)) (below blocks) ≡ true → (block : ℕ) → test block ≡ false → a block ≡ b block
agree-but blocks test a b one two all block clean = elim (cases_lt block blocks) [
  | inl within ↦ elim (or_cases (test block) (same_block (a block) (b block)) (each-block (λ block. test block || same_block (a block) (b block)) blocks block all within)) [
    | inl on ↦ absurd (both_ways (test block) clean on)
    | inr same ↦ same-equal (a block) (b block) same
  ]
  | inr past ↦
      let out : nat_lt block blocks ≡ false = false_from_ne_true (nat_lt block blocks) (λ less. let l = ltb-true block blocks less in omega arith) in
      none-of (a block) (one block ∙ out) ∙ sym (none-of (b block) (two block ∙ out))
]

-- What a stop may leave of two histories of one size, tested block by block. The last test is of the blocks that the peer's disk
-- has nothing under way for.
may-be-left : (blocks : ℕ) (p : PrimaryHistory) (s after : SecondaryHistory) (marks : ℕ → Bool) (local peer : BlockMap)
    → p.settings.blocks ≡ blocks → s.settings.blocks ≡ blocks → IsDisk blocks local → IsDisk blocks peer → IsDisk blocks (local_map p) → IsDisk blocks (secondary_map s)
    → list_all (λ block. not (is_covered p block) || marks block) (below blocks) ≡ true
    → list_all (λ block. known_at p marks block || same_block (local block) (local_map p block)) (below blocks) ≡ true
    → list_all (λ block. (known_at p marks block || not (same_block (secondary_map s block) (secondary_map after block)))
    || same_block (peer block) (secondary_map s block)) (below blocks) ≡ true
    → MayBeLeft p s after marks local peer
may-be-left blocks p s after marks local peer size size_too local_disk peer_disk local_map_disk peer_map_disk covered here there = record {
  local_disk = subst (λ (n : ℕ). IsDisk n local) (sym size) local_disk;
  peer_disk = subst (λ (n : ℕ). IsDisk n peer) (sym size_too) peer_disk;
  covered = λ block less is. implied (is_covered p block) (marks block)
      (each-block (λ block. not (is_covered p block) || marks block) blocks block covered (subst (λ (n : ℕ). block < n) size less)) is;
  here = agree-but blocks (known_at p marks) local (local_map p) local_disk local_map_disk here;
  there = λ block clean still.
      agree-but blocks (λ block. known_at p marks block || not (same_block (secondary_map s block) (secondary_map after block))) peer (secondary_map s)
      peer_disk peer_map_disk there block (both-off (known_at p marks block) (same_block (secondary_map s block) (secondary_map after block)) clean still);
}
  where
    both-off : (a b : Bool) → a ≡ false → b ≡ true → (a || not b) ≡ false
    both-off false true one two = refl
    both-off true b one two = absurd (cc)
    both-off false false one two = absurd (cc)

-- A session of a pair that stops.

-- what may be left of the pair's histories may be left of those of its two nodes
left-at-moment : (o next : Opening) (events done : List Event) (marks : ℕ → Bool) (local peer : BlockMap) (known : Bool)
    → (after (events ++ done) (pair_at o)).primary ≡ (after events (pair_at o)).primary
    → (known ≡ true → (after events (pair_at o)).secondary.consistent ≡ true) → IsTrue (after events (pair_at o)).primary.faithful
    → MayBeLeft (after events (pair_at o)).primary (after events (pair_at o)).secondary (after (events ++ done) (pair_at o)).secondary marks local peer
    → next ≡ left_at (after events (pair_at o)).primary (after events (pair_at o)).secondary marks local peer (stopped_tuple (after events (pair_at o)).primary)
    (if known then (after events (pair_at o)).secondary.tuple else unknown) → IsLeftAt o next events done
left-at-moment o next events done marks local peer known same consistent faithful left opens =
    record { left = by; primary = sym runs.primary; secondary = sym runs.secondary; finished = sym more.secondary }
  where
    now : PairHistory
    now = after events (pair_at o)

    finished : PairHistory
    finished = after (events ++ done) (pair_at o)

    runs : AreJoinedRuns o (after events (pair_at o)).primary (after events (pair_at o)).secondary
    runs = every_run_is_joined o (map (λ event. (event, false)) events)

    more : AreJoinedRuns o (after (events ++ done) (pair_at o)).primary (after (events ++ done) (pair_at o)).secondary
    more = every_run_is_joined o (map (λ event. (event, false)) (events ++ done))

    stopped : Stopped o
    stopped = record {
      here = runs.here;
      there = runs.there;
      done = more.there;
      joined = subst (λ (p : PrimaryHistory). IsJoined p (secondary_run runs.there (secondary_at o))) runs.primary
          (subst (λ (s : SecondaryHistory). IsJoined now.primary s) runs.secondary runs.joined);
      joined_done = subst (λ (p : PrimaryHistory). IsJoined p (secondary_run more.there (secondary_at o))) runs.primary
          (subst (λ (s : SecondaryHistory). IsJoined now.primary s) more.secondary
          (subst (λ (p : PrimaryHistory). IsJoined p finished.secondary) same more.joined));
    }

    by : IsLeftBy o next
    by = record {
      stopped = stopped;
      marks = marks;
      local = local;
      peer = peer;
      known = known;
      consistent = λ is. subst (λ (s : SecondaryHistory). s.consistent ≡ true) runs.secondary (consistent is);
      faithful = subst (λ (p : PrimaryHistory). IsTrue p.faithful) runs.primary faithful;
      left = subst (λ (p : PrimaryHistory). MayBeLeft p (secondary_of o stopped) (done_of o stopped) marks local peer) runs.primary
          (subst (λ (s : SecondaryHistory). MayBeLeft now.primary s (done_of o stopped) marks local peer) runs.secondary
          (subst (λ (s : SecondaryHistory). MayBeLeft now.primary now.secondary s marks local peer) more.secondary left));
      opens = opens ∙ ap (λ (p : PrimaryHistory). left_at p now.secondary marks local peer (stopped_tuple p) (if known then now.secondary.tuple else unknown)) runs.primary
          ∙ ap (λ (s : SecondaryHistory). left_at (primary_of o stopped) s marks local peer (stopped_tuple (primary_of o stopped))
          (if known then s.tuple else unknown)) runs.secondary;
    }

filled-disk : (blocks : ℕ) (bytes : List ℕ) → IsDisk blocks (filled blocks bytes)
filled-disk blocks bytes block = elim (nat_lt block blocks) as (λ b. is_some (if b then Some bytes else None) ≡ b) [ true ↦ refl | false ↦ refl ]

first-may : MayBeLeft (after writing (pair_at new_pair)).primary (after writing (pair_at new_pair)).secondary
    (after (writing ++ PeerEvent 0 ∷ []) (pair_at new_pair)).secondary amid_writes.marks amid_writes.local amid_writes.peer
first-may = may-be-left 8 p s (after (writing ++ PeerEvent 0 ∷ []) (pair_at new_pair)).secondary amid_writes.marks amid_writes.local amid_writes.peer refl refl
    (of-bytes-disk (0 ∷ 0 ∷ 170 ∷ 0 ∷ 0 ∷ 99 ∷ 0 ∷ 0 ∷ [])) (of-bytes-disk (0 ∷ 0 ∷ 98 ∷ 0 ∷ 0 ∷ 0 ∷ 0 ∷ 0 ∷ []))
    (overlay-disk 8 new_pair.local (map local_layer p.writes) (filled-disk 8 (0 ∷ [])) refl)
    (overlay-disk 8 new_pair.peer (layers_of (items_taken (secondary_connection s)) (secondary_connection s).applied) (filled-disk 8 (0 ∷ [])) refl)
    refl refl refl
  where
    p : PrimaryHistory
    p = (after writing (pair_at new_pair)).primary

    s : SecondaryHistory
    s = (after writing (pair_at new_pair)).secondary

first-left : IsLeftAt new_pair amid_writes writing (PeerEvent 0 ∷ [])
first-left = left-at-moment new_pair amid_writes writing (PeerEvent 0 ∷ []) amid_writes.marks amid_writes.local amid_writes.peer true refl (λ is. refl) refl
    first-may refl

second-left : IsLeftAt amid_writes amid_a_resync copying_marked (PeerEvent 3 ∷ [])
second-left = left-at-moment amid_writes amid_a_resync copying_marked (PeerEvent 3 ∷ []) amid_a_resync.marks amid_a_resync.local amid_a_resync.peer false refl
    (λ is. absurd (cc)) refl
    (may-be-left 8 p s (after (copying_marked ++ PeerEvent 3 ∷ []) (pair_at amid_writes)).secondary amid_a_resync.marks amid_a_resync.local amid_a_resync.peer
    refl refl (of-bytes-disk (0 ∷ 0 ∷ 170 ∷ 0 ∷ 0 ∷ 99 ∷ 0 ∷ 0 ∷ [])) (of-bytes-disk (0 ∷ 0 ∷ 170 ∷ 0 ∷ 0 ∷ 97 ∷ 0 ∷ 0 ∷ []))
    (overlay-disk 8 amid_writes.local (map local_layer p.writes) (of-bytes-disk (0 ∷ 0 ∷ 170 ∷ 0 ∷ 0 ∷ 99 ∷ 0 ∷ 0 ∷ [])) refl)
    (overlay-disk 8 amid_writes.peer (layers_of (items_taken (secondary_connection s)) (secondary_connection s).applied)
    (of-bytes-disk (0 ∷ 0 ∷ 98 ∷ 0 ∷ 0 ∷ 0 ∷ 0 ∷ 0 ∷ [])) refl)
    refl refl refl) refl
  where
    p : PrimaryHistory
    p = (after copying_marked (pair_at amid_writes)).primary

    s : SecondaryHistory
    s = (after copying_marked (pair_at amid_writes)).secondary

third-left : IsLeftAt amid_a_resync at_rest copying_all []
third-left = left-at-moment amid_a_resync at_rest copying_all [] at_rest.marks at_rest.local at_rest.peer true refl (λ is. refl) refl
    (may-be-left 8 p s s at_rest.marks at_rest.local at_rest.peer refl refl (of-bytes-disk (0 ∷ 0 ∷ 170 ∷ 0 ∷ 0 ∷ 99 ∷ 0 ∷ 0 ∷ []))
    (of-bytes-disk (0 ∷ 0 ∷ 170 ∷ 0 ∷ 0 ∷ 99 ∷ 0 ∷ 0 ∷ []))
    (overlay-disk 8 amid_a_resync.local (map local_layer p.writes) (of-bytes-disk (0 ∷ 0 ∷ 170 ∷ 0 ∷ 0 ∷ 99 ∷ 0 ∷ 0 ∷ [])) refl)
    (overlay-disk 8 amid_a_resync.peer (layers_of (items_taken (secondary_connection s)) (secondary_connection s).applied)
    (of-bytes-disk (0 ∷ 0 ∷ 170 ∷ 0 ∷ 0 ∷ 97 ∷ 0 ∷ 0 ∷ [])) refl)
    refl refl refl) refl
  where
    p : PrimaryHistory
    p = (after copying_all (pair_at amid_a_resync)).primary

    s : SecondaryHistory
    s = (after copying_all (pair_at amid_a_resync)).secondary

pub sessions_are_left : SessionsAreLeft
sessions_are_left = record {
  opening = openings_are_met.equal;
  unparted = λ same. refl;
  first = first-left;
  first_grounded = (refl, inl refl);
  first_pending = refl;
  first_differs = refl;
  second_decides = refl;
  second = second-left;
  second_pending = refl;
  second_differs = refl;
  third_decides = refl;
  third = third-left;
  third_rests = refl;
  third_differs = refl;
  next_decides = refl;
  chain = (first-left.left, (second-left.left, (third-left.left, tt)));
}

-- The old primary comes back.

ranges : IsInRange standard
ranges = openings_are_met.equal.ranges.here

first-ran : RanAlone standard unmarked amid_writes.peer first_alone
first-ran = record {
  ranges = record { here = ranges; there = ranges };
  same_settings = refl;
  opened_on = refl;
  opened_with = λ block less on. absurd (cc);
  alone = record { none = λ k c at. absurd (cc); tuple = refl };
  left = record {
    size = of-bytes-disk (0 ∷ 0 ∷ 98 ∷ 204 ∷ 0 ∷ 0 ∷ 0 ∷ 0 ∷ []);
    covered = λ block less is. implied (is_covered p block) (first_alone.marks block)
        (each-block (λ block. not (is_covered p block) || first_alone.marks block) 8 block refl less) is;
    kept = agree-but 8 (λ block. nat_lt block 8 && first_alone.marks block) first_alone.disk (local_map p)
        (of-bytes-disk (0 ∷ 0 ∷ 98 ∷ 204 ∷ 0 ∷ 0 ∷ 0 ∷ 0 ∷ []))
        (overlay-disk 8 amid_writes.peer (map local_layer p.writes) (of-bytes-disk (0 ∷ 0 ∷ 98 ∷ 0 ∷ 0 ∷ 0 ∷ 0 ∷ 0 ∷ [])) refl) refl;
  };
}
  where
    p : PrimaryHistory
    p = end_of first_alone

second-ran : RanAlone standard first_alone.marks first_alone.disk second_alone
second-ran = record {
  ranges = record { here = ranges; there = ranges };
  same_settings = refl;
  opened_on = refl;
  opened_with = λ block less on. on;
  alone = record { none = λ k c at. absurd (cc); tuple = refl };
  left = record {
    size = of-bytes-disk (0 ∷ 0 ∷ 98 ∷ 204 ∷ 0 ∷ 0 ∷ 96 ∷ 0 ∷ []);
    covered = λ block less is. implied (is_covered p block) (second_alone.marks block)
        (each-block (λ block. not (is_covered p block) || second_alone.marks block) 8 block refl less) is;
    kept = agree-but 8 (λ block. nat_lt block 8 && second_alone.marks block) second_alone.disk (local_map p)
        (of-bytes-disk (0 ∷ 0 ∷ 98 ∷ 204 ∷ 0 ∷ 0 ∷ 96 ∷ 0 ∷ []))
        (overlay-disk 8 first_alone.disk (map local_layer p.writes) (of-bytes-disk (0 ∷ 0 ∷ 98 ∷ 204 ∷ 0 ∷ 0 ∷ 0 ∷ 0 ∷ [])) refl) refl;
  };
}
  where
    p : PrimaryHistory
    p = end_of second_alone

-- by the law, whichever way the first session of those above went
returned-from : (w : Stopped new_pair) → MayBeLeft (primary_of new_pair w) (secondary_of new_pair w) (done_of new_pair w) amid_writes.marks amid_writes.local amid_writes.peer
    → IsGrounded (primary_of new_pair w) (secondary_of new_pair w) → IsSoundOpening returned
returned-from w may grounded = subst (λ (x : Settings). IsSoundOpening (record returned { peer_settings = x })) mine
    (subst (λ (x : Settings). IsSoundOpening (record returned { settings = x; peer_settings = (primary_of new_pair w).settings })) theirs
    (returns_stay_sound new_pair w amid_writes.marks amid_writes.local amid_writes.peer (first_alone ∷ second_alone ∷ []) returned.own returned.peer_tuple
    openings_are_met.equal (ap (λ (x : Settings). x.blocks) (mine ∙ sym theirs)) may grounded
    (subst (λ (x : Settings). AllRanAlone x unmarked amid_writes.peer (first_alone ∷ second_alone ∷ [])) (sym theirs) (first-ran, (second-ran, tt))) (omega arith)))
  where
    mine : (primary_of new_pair w).settings ≡ standard
    mine = (kept-opening-primary new_pair w.here).settings

    theirs : (secondary_of new_pair w).settings ≡ standard
    theirs = (kept-opening-secondary new_pair w.there).settings

returned-sound : IsSoundOpening returned
returned-sound = returned-from first-left.left.stopped (of-moment (λ p s t. MayBeLeft p s t amid_writes.marks amid_writes.local amid_writes.peer) first-may)
    (of-moment (λ p s t. IsGrounded p s) (refl, inl refl))
  where
    w : Stopped new_pair
    w = first-left.left.stopped

    -- what holds of the pair's histories holds of those of its nodes
    of-moment : (P : PrimaryHistory → SecondaryHistory → SecondaryHistory → Type 0)
        → P (after writing (pair_at new_pair)).primary (after writing (pair_at new_pair)).secondary (after (writing ++ PeerEvent 0 ∷ []) (pair_at new_pair)).secondary
        → P (primary_of new_pair first-left.left.stopped) (secondary_of new_pair first-left.left.stopped) (done_of new_pair first-left.left.stopped)
    of-moment P holds = subst (λ (p : PrimaryHistory). P p (secondary_of new_pair w) (done_of new_pair w)) (sym first-left.primary)
        (subst (λ (s : SecondaryHistory). P (after writing (pair_at new_pair)).primary s (done_of new_pair w)) (sym first-left.secondary)
        (subst (λ (t : SecondaryHistory). P (after writing (pair_at new_pair)).primary (after writing (pair_at new_pair)).secondary t) (sym first-left.finished)
        holds))

pub return_is_met : ReturnIsMet
return_is_met = record {
  ran = (first-ran, (second-ran, tt));
  first_covers = refl;
  second_covers = refl;
  sound = returned-sound;
  differs = refl;
  marks = refl;
  decides = refl;
}

pub growth_is_met : GrowthIsMet
growth_is_met = record { unwritten = refl; submitted = refl; unmet = refl; begun = refl }
