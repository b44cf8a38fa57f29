-- Of two writes that share a block the earlier one is released first. So a block that a release clears was written last by a write
-- that is on the local disk, and whose epoch on the standing stream is acknowledged.
use Rattle.std.proofs.Common.{ℕ, suc, ◌≡◌, ◌<◌, ◌≤◌, inl, inr, true, false, not, List, ◌++◌, length, take, Option, Some, None, slice_get, Ok, refl, sym}
use Rattle.std.proofs.Common.{◌∙◌, ap, subst, arith, ◌==◌, drop}
use Rattle.std.proofs.lemmas.Bool.{cases_Bool, both_ways, and_from, not_from_false, not-true, or_cases, eqb-true}
use Rattle.std.proofs.lemmas.List.{take-append-drop}
use Rattle.std.proofs.lemmas.Option.{slice_get_within}
use Rattle.blocks.specs.Positions.{StreamPosition}
use Rattle.blocks.specs.declared.settings.Settings.{Settings}
use Rattle.model.specs.Contents.{Write, covers}
use Rattle.model.specs.Stream.{items_meet, StreamItem, WriteItem, barriers_in, epoch_of}
use Rattle.model.specs.Frames.{BarrierAckFrame}
use Rattle.model.specs.Marks.{is_cleared}
use Rattle.model.specs.Primary.{OnDisk, Accepted, PrimaryConnection, PrimaryHistory, no_primary_connection, primary_connection, last_index}
use Rattle.model.specs.Primary.{with_primary_connection, is_established, barrier_acknowledged}
use Rattle.model.specs.Primary.{is_on_disk, is_alone, is_confirmed, is_released, unreleased}
use Rattle.model.specs.PrimarySteps.{set_outcome, with_outcome}
use Rattle.laws.proofs.Rules.ReleaseClears.{Clears, cleared-by}
use Rattle.laws.proofs.Lists.Elements.{same-at}
use Rattle.laws.proofs.Lists.Last.{get-change}
use Rattle.laws.proofs.Lists.Picks.{pick-any, pick-filtered, pick-image, filtered-pick}
use Rattle.laws.proofs.Streams.Places.{barriers-append, epoch-front}
use Rattle.laws.proofs.Primary.Moves.{with_frame}
use Rattle.laws.proofs.Primary.Homes.{alone-homeless, HasHomes, open-at, alone-at, confirmed-at}
use Rattle.laws.proofs.Primary.Ends.{not-refused}
use Rattle.laws.proofs.Primary.LastOpen.{open-is-last, IsLastOpen}
use Rattle.laws.proofs.Releases.InOrder.{IsInOrder, said-taking}
use Rattle.laws.proofs.Rules.Conflicts.{meeting}
use Rattle.laws.proofs.Releases.InOrderMoves.{Ordered}
use Rattle.laws.proofs.Primary.Writes.{KeepsWrites, keeps-writes, keeps-outcome}
use Rattle.laws.proofs.Tracked.Outcomes.{outcome-cases}
use Rattle.laws.proofs.Rules.Releases.{is_freed, freed-cases, freed-linked, freed-confirmed, freed-alone, freed-same, released-parts, released-by, IsReleased}

-- a later place is in no earlier epoch
epoch-rises : (items : List StreamItem) (place later : ℕ) → place < later → later ≤ length items → epoch_of items place ≤ epoch_of items later
epoch-rises items place later less within =
    let front : List StreamItem = take later items in
    let split = barriers-append (take place front) (drop place front) in
    let all : barriers_in (take place front ++ drop place front) ≡ barriers_in front = ap barriers_in (take-append-drop place front) in
    let same : epoch_of front place ≡ epoch_of items place = epoch-front items later place less within in
    omega arith

-- Of two writes that share a block, where the later one is released the earlier one is.
pub released-in-order : (settings : Settings) (h : PrimaryHistory) → Ordered settings h → (i j block : ℕ) (a b : Accepted) → i < j
    → slice_get h.writes i ≡ Some a → slice_get h.writes j ≡ Some b → covers a.write block ≡ true → covers b.write block ≡ true
    → is_released h b ≡ true → is_released h a ≡ true
released-in-order settings h p i j block a b less ata atb cova covb released =
    released-by h a (order.settled_first i j block a b less ata atb cova covb) (by-home a.home refl)
  where
    order : IsInOrder h
    order = p.1.1.1

    homes : HasHomes h
    homes = p.1.1.0.0

    said : is_freed h b ≡ true
    said = (released-parts h b released).freed

    by-other : (home : StreamPosition) → a.home ≡ Some home → (v : Option StreamPosition) → b.home ≡ v → is_freed h a ≡ true
    by-other home ha None hb =
        let was = homes.housed i home.index home.place a ata ha in
        freed-alone h a (alone-at h a home was.0 ha was.1 ∙ order.alone_later i j a b home was.0 less ata atb ha hb was.1)
    by-other home ha (Some other) hb =
        let was = homes.housed i home.index home.place a ata ha in
        let its = homes.housed j other.index other.place b atb hb in
        elim (order.rise i j a b home other less ata atb ha hb) [
          | inl early ↦
              let within = slice_get_within h.connections other.index its.0 its.1 in
              freed-alone h a (alone-at h a home was.0 ha was.1 ∙ p.1.0 home.index was.0 was.1 (omega arith))
          | inr here ↦
              let end : its.0 ≡ was.0 =
              same-at h.connections home.index its.0 was.0 (subst (λ (n : ℕ). slice_get h.connections n ≡ Some its.0) (sym here.0) its.1)
              was.1 in
              elim (freed-cases h b said) [
                | inr alone ↦ freed-alone h a (alone-at h a home was.0 ha was.1
                    ∙ (ap (λ (c : PrimaryConnection). c.closed) (sym end) ∙ (sym (alone-at h b other its.0 hb its.1) ∙ alone)))
                | inl confirmed ↦
                    let acknowledged : barrier_acknowledged was.0 (epoch_of was.0.stream other.place) ≡ true =
                    subst (λ (c : PrimaryConnection). barrier_acknowledged c (epoch_of c.stream other.place) ≡ true) end
                    (sym (confirmed-at h b other its.0 hb its.1)
                    ∙ confirmed) in
                    let inside = slice_get_within was.0.stream other.place (WriteItem b.write)
                    (subst (λ (c : PrimaryConnection). slice_get c.stream other.place ≡ Some (WriteItem b.write)) end its.2) in
                    let rising = epoch-rises was.0.stream home.place other.place here.1 (omega arith) in
                    freed-confirmed h a (confirmed-at h a home was.0 ha was.1
                    ∙ order.acknowledged home.index was.0 was.1 (epoch_of was.0.stream home.place) (epoch_of was.0.stream other.place)
                    (omega arith) rising acknowledged)
              ]
        ]

    by-home : (v : Option StreamPosition) → a.home ≡ v → is_freed h a ≡ true
    by-home None is = freed-alone h a (alone-homeless h a is)
    by-home (Some home) is = by-other home is b.home refl

-- A step that releases writes.

-- a write of a later history that is released there, and was not before
pub record IsNew (h later : PrimaryHistory) (i : ℕ) (a : Accepted) : Type 0 where
  pub at : slice_get later.writes i ≡ Some a
  pub now : is_released later a ≡ true
  pub before : (b : Accepted) → slice_get h.writes i ≡ Some b → is_released h b ≡ false

-- What such a step does to the writes: they stay, and no two of those that it releases share a block.
pub record IsRelease (h later : PrimaryHistory) : Type 0 where
  pub writes : KeepsWrites h.writes later.writes
  pub apart : (i j block : ℕ) (a b : Accepted) → i < j → IsNew h later i a → IsNew h later j b → covers a.write block ≡ true → covers b.write block ≡ true → ⊥

-- The local disk does a write: it releases no other.
pub done-releases : (h : PrimaryHistory) (number : ℕ) → HasHomes h → IsRelease h (with_outcome number OnDisk h)
done-releases h number homes = record {
  writes = kept;
  apart = λ i j block a b less newa newb cova covb. let one = its i a newa in let two = its j b newb in omega arith;
}
  where
    later : PrimaryHistory
    later = with_outcome number OnDisk h

    kept : KeepsWrites h.writes (with_outcome number OnDisk h).writes
    kept = keeps-outcome number OnDisk h.writes refl

    -- the one that it releases has this number
    its : (i : ℕ) (a : Accepted) → IsNew h (with_outcome number OnDisk h) i a → suc i ≡ number
    its i a new =
        let was = pick-image (set_outcome number OnDisk) h.writes i a new.at in
        elim (outcome-cases number OnDisk was.0) [
          | inl changed ↦ sym (homes.numbered i was.0 was.1) ∙ changed.0
          | inr same ↦ absurd (both_ways (is_released h was.0) (new.before was.0 was.1) (subst (λ (x : Accepted). is_released later x ≡ true) (sym was.2
              ∙ same) new.now))
        ]

-- The peer acknowledges an epoch: what it releases is in that epoch.
pub confirmed-releases : (settings : Settings) (h : PrimaryHistory) (number size : ℕ) → (primary_connection h).closed ≡ false → Ordered settings h
    → IsRelease h (with_primary_connection (with_frame (Ok (BarrierAckFrame number size))) h)
confirmed-releases settings h number size standing p = record {
  writes = keeps-writes h.writes;
  apart = λ i j block a b less newa newb cova covb.
      let one = placed i a newa in
      let two = placed j b newb in
      let after : one.0 < two.0 =
      elim (order.rise i j a b (record { index = last_index h.connections; place = one.0 }) (record {
        index = last_index h.connections;
        place =
            two.0;
      }) less newa.at newb.at one.1 two.1)
      [ inl early ↦ absurd (omega arith) | inr here ↦ here.1 ] in
      let lawful = p.1.1.0.1.streams.lawful (last_index h.connections) (primary_connection h) (open-at h standing) in
      both_ways (items_meet (WriteItem a.write) (WriteItem b.write))
      (lawful.apart one.0 two.0 (WriteItem a.write) (WriteItem b.write) after (sym one.3 ∙ two.3) one.2 two.2)
      (meeting a.write b.write block cova covb);
}
  where
    order : IsInOrder h
    order = p.1.1.1

    homes : HasHomes h
    homes = p.1.1.0.0

    later : PrimaryHistory
    later = with_primary_connection (with_frame (Ok (BarrierAckFrame number size))) h

    -- its home is on the last connection, in that epoch
    placed : (i : ℕ) (a : Accepted) → IsNew h (with_primary_connection (with_frame (Ok (BarrierAckFrame number size))) h) i a
        → (place : ℕ) × (a.home ≡ Some (record { index = last_index h.connections; place = place }))
        × (slice_get (primary_connection h).stream place ≡ Some (WriteItem a.write))
        × (number ≡ epoch_of (primary_connection h).stream place)
    placed i a new = by-home a.home refl
      where
        parts : IsReleased later a
        parts = released-parts later a new.now

        -- it was not released before
        not-so : is_freed h a ≡ true → ⊥
        not-so said = both_ways (is_released h a) (new.before a new.at) (released-by h a parts.done said)

        by-home : (v : Option StreamPosition) → a.home ≡ v
            → (place : ℕ) × (a.home ≡ Some (record { index = last_index h.connections; place = place }))
            × (slice_get (primary_connection h).stream place ≡ Some (WriteItem a.write))
            × (number ≡ epoch_of (primary_connection h).stream place)
        by-home None is = absurd (not-so (freed-alone h a (alone-homeless h a is)))
        by-home (Some home) is =
            let was = homes.housed i home.index home.place a new.at is in
            let epoch : ℕ = epoch_of was.0.stream home.place in
            elim (get-change (with_frame (Ok (BarrierAckFrame number size))) (no_primary_connection h.tuple) h.connections home.index was.0 was.1) [
              | inl same ↦ absurd (not-so (freed-same later h a a (confirmed-at h a home was.0 is was.1 ∙ sym (confirmed-at later a home was.0 is same))
                  (alone-at h a home was.0 is was.1 ∙ sym (alone-at later a home was.0 is same)) ∙ parts.freed))
              | inr changed ↦
                  let plain : was.0.refused ≡ false = subst (λ (c : PrimaryConnection). c.refused ≡ false) (sym changed.1)
                  (not-refused h homes standing (last_index h.connections) (open-at h standing)) in
                  let index : home.index ≡ last_index h.connections = let end = changed.2 in omega arith in
                  elim (freed-cases later a parts.freed) [
                    | inr shut ↦ absurd (not-so (freed-alone h a (alone-at h a home was.0 is was.1
                        ∙ (sym (alone-at later a home (with_frame (Ok (BarrierAckFrame number size)) was.0) is changed.0) ∙ shut))))
                    | inl acknowledged ↦ elim (or_cases (barrier_acknowledged was.0 epoch) (number == epoch)
                        (sym (said-taking was.0 (Ok (BarrierAckFrame number size)) epoch plain)
                        ∙ (sym (confirmed-at later a home (with_frame (Ok (BarrierAckFrame number size)) was.0) is changed.0) ∙ acknowledged))) [
                          | inl old ↦ absurd (not-so (freed-confirmed h a (confirmed-at h a home was.0 is was.1 ∙ old)))
                          | inr now ↦ (
                            home.place,
                            is ∙ ap (λ (n : ℕ). let at : StreamPosition = record { index = n; place = home.place } in Some at) index,
                            subst (λ (c : PrimaryConnection). slice_get c.stream home.place ≡ Some (WriteItem a.write)) changed.1 was.2,
                            subst (λ (c : PrimaryConnection). number ≡ epoch_of c.stream home.place) changed.1 (eqb-true number epoch now),
                          )
                        ]
                  ]
            ]

-- What is cleared.

-- A block that a step clears: the last write that has it is on the local disk, and acknowledged on the standing stream.
pub record IsCleared (h : PrimaryHistory) (block : ℕ) : Type 0 where
  pub index : ℕ
  pub accepted : Accepted
  pub place : ℕ
  pub at : slice_get h.writes index ≡ Some accepted
  pub covered : covers accepted.write block ≡ true
  pub done : is_on_disk accepted.outcome ≡ true
  pub home : accepted.home ≡ Some (record { index = last_index h.connections; place = place })
  pub connected : slice_get h.connections (last_index h.connections) ≡ Some (primary_connection h)
  pub standing : is_established (primary_connection h) ≡ true
  pub there : slice_get (primary_connection h).stream place ≡ Some (WriteItem accepted.write)
  pub confirmed : barrier_acknowledged (primary_connection h) (epoch_of (primary_connection h).stream place) ≡ true
  pub last : (j : ℕ) (b : Accepted) → index < j → slice_get h.writes j ≡ Some b → covers b.write block ≡ false

-- the home of a write that is released while its connection stands
record IsAtHome (h : PrimaryHistory) (a : Accepted) : Type 0 where
  place : ℕ
  home : a.home ≡ Some (record { index = last_index h.connections; place = place })
  connected : slice_get h.connections (last_index h.connections) ≡ Some (primary_connection h)
  standing : is_established (primary_connection h) ≡ true
  there : slice_get (primary_connection h).stream place ≡ Some (WriteItem a.write)
  confirmed : barrier_acknowledged (primary_connection h) (epoch_of (primary_connection h).stream place) ≡ true

at-home : (h : PrimaryHistory) (i : ℕ) (a : Accepted) → HasHomes h → IsLastOpen h → slice_get h.writes i ≡ Some a → is_released h a ≡ true
    → is_alone h a ≡ false → IsAtHome h a
at-home h i a homes last at released connected = by-home a.home refl
  where
    confirmed : is_confirmed h a ≡ true
    confirmed = freed-linked h a (released-parts h a released).freed connected

    by-home : (v : Option StreamPosition) → a.home ≡ v → IsAtHome h a
    by-home None is = absurd (both_ways (is_alone h a) connected (alone-homeless h a is))
    by-home (Some home) is =
        let was = homes.housed i home.index home.place a at is in
        let ends = open-is-last h home.index was.0 last was.1 (sym (alone-at h a home was.0 is was.1) ∙ connected) in
        let begun : was.0.begun ≡ true =
        elim (cases_Bool was.0.begun) [
          | inl so ↦ so
          | inr fresh ↦ absurd (let empty = homes.empty home.index was.0 was.1 fresh in let item =
              was.2 in cc (empty, item))
        ] in
        record {
          place = home.place;
          home = is ∙ ap (λ (n : ℕ). let at : StreamPosition = record { index = n; place = home.place } in Some at) ends.0;
          connected = subst (λ (n : ℕ). slice_get h.connections n ≡ Some (primary_connection h)) ends.0 (was.1 ∙ ap (λ (c : PrimaryConnection). Some c) ends.1);
          standing = subst (λ (c : PrimaryConnection). is_established c ≡ true) ends.1
              (and_from (not was.0.closed) was.0.begun (not_from_false was.0.closed (sym (alone-at h a home was.0 is was.1) ∙ connected)) begun);
          there = subst (λ (c : PrimaryConnection). slice_get c.stream home.place ≡ Some (WriteItem a.write)) ends.1 was.2;
          confirmed = subst (λ (c : PrimaryConnection). barrier_acknowledged c (epoch_of c.stream home.place) ≡ true) ends.1
              (sym (confirmed-at h a home was.0 is was.1)
              ∙ confirmed);
        }

-- the write that clears a block is released by the step
pub record IsClearing (h later : PrimaryHistory) (block : ℕ) : Type 0 where
  pub cleared : IsCleared later block
  pub new : IsNew h later cleared.index cleared.accepted

-- What such a step clears is so.
pub release-clearing : (settings : Settings) (h later : PrimaryHistory) (block : ℕ) → Ordered settings h → HasHomes later → IsLastOpen later → IsRelease h later
    → is_cleared h later block ≡ true → IsClearing h later block
release-clearing settings h later block p homes shut release cleared = record {
  cleared = so;
  new = new;
}
  where
    by : Clears h later block
    by = cleared-by h later block cleared

    i : ℕ
    i = by.index

    a : Accepted
    a = by.accepted

    at : slice_get later.writes i ≡ Some a
    at = by.at

    covered : covers a.write block ≡ true
    covered = by.covered

    home : IsAtHome later a
    home = at-home later i a homes shut at by.released by.linked

    -- the write as it was before
    before : (w : Accepted) × (slice_get h.writes i ≡ Some w) × (is_released h w ≡ false) × (a.write ≡ w.write)
    before =
        let some = pick-any (λ (was : Accepted). was.write.number == a.write.number) (unreleased h) by.was in
        let stood = pick-filtered (λ (x : Accepted). not (is_released h x)) h.writes some.0 some.1 some.2 in
        let number : some.1.write.number ≡ a.write.number = eqb-true some.1.write.number a.write.number some.3 in
        let one = p.1.1.0.0.numbered stood.0 some.1 stood.1 in
        let two = homes.numbered i a at in
        let index : stood.0 ≡ i = omega arith in
        let there : slice_get h.writes i ≡ Some some.1 = subst (λ (n : ℕ). slice_get h.writes n ≡ Some some.1) index stood.1 in
        let back = release.writes.back i a at in
        (some.1, there, not-true (is_released h some.1) stood.2, back.2 ∙ ap (λ (x : Accepted). x.write) (same-at h.writes i back.0 some.1 back.1 there))

    new : IsNew h later i a
    new = record {
      at = at;
      now = by.released;
      before = λ w atw. subst (λ (x : Accepted). is_released h x ≡ false) (same-at h.writes i before.0 w before.1 atw) before.2;
    }

    -- a later write that has the block is released by the step too
    newer : (j : ℕ) (b : Accepted) → i < j → slice_get later.writes j ≡ Some b → covers b.write block ≡ true → IsNew h later j b
    newer j b after atb its = record {
      at = atb;
      now = elim (cases_Bool (is_released later b)) [
        | inl so ↦ so
        | inr held ↦ absurd (
            let one = homes.numbered i a at in
            let two = homes.numbered j b atb in
            let held_so = filtered-pick (λ (x : Accepted). not (is_released later x)) later.writes j b atb (not_from_false (is_released later b) held) in
            both_ways (covers b.write block) (by.last held_so.0 b held_so.1 (omega arith)) its)
      ];
      before = λ x atx. elim (cases_Bool (is_released h x)) [
        | inr so ↦ so
        | inl was ↦ absurd (
            let back = release.writes.back j b atb in
            let same : b.write ≡ x.write = back.2 ∙ ap (λ (y : Accepted). y.write) (same-at h.writes j back.0 x back.1 atx) in
            both_ways (is_released h before.0) before.2
            (released-in-order settings h p i j block before.0 x after before.1 atx (subst (λ (w : Write). covers w block ≡ true) before.3 covered)
            (subst (λ (w : Write). covers w block ≡ true) same its) was))
      ];
    }

    so : IsCleared later block
    so = record {
      index = i;
      accepted = a;
      place = home.place;
      at = at;
      covered = covered;
      done = by.done;
      home = home.home;
      connected = home.connected;
      standing = home.standing;
      there = home.there;
      confirmed = home.confirmed;
      last = λ j b after atb. elim (cases_Bool (covers b.write block))
          [ inr apart ↦ apart | inl its ↦ absurd (release.apart i j block a b after new (newer j b after atb its) covered its) ];
    }

pub release-clears : (settings : Settings) (h later : PrimaryHistory) (block : ℕ) → Ordered settings h → HasHomes later → IsLastOpen later → IsRelease h later
    → is_cleared h later block ≡ true → IsCleared later block
release-clears settings h later block p homes shut release cleared = (release-clearing settings h later block p homes shut release cleared).cleared
