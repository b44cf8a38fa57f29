-- Every move of a primary keeps the homes of its writes and the journal's promises.
use Rattle.std.specs.Prelude.{◌&&◌}
use Rattle.std.proofs.Common.{ℕ, zero, suc, ◌≡◌, ◌-◌, ◌⊎◌, inl, inr, Bool, true, false, List, [], ◌∷◌, ◌++◌, length, take, map, Option, Some, None, slice_get}
use Rattle.std.proofs.Common.{Ok, refl, sym, ◌∙◌, ap, subst, arith}
use Rattle.std.specs.Prelude.{if◌then◌else◌, option_map}
use Rattle.std.proofs.lemmas.Bool.{both_ways, and_parts}
use Rattle.std.proofs.lemmas.Option.{slice_get-map}
use Rattle.blocks.specs.Positions.{StreamPosition}
use Rattle.blocks.specs.declared.settings.Settings.{Settings}
use Rattle.blocks.specs.declared.tuple.Tuple.{Tuple}
use Rattle.blocks.specs.declared.outcome.Decision.{Decision}
use Rattle.blocks.specs.declared.outcome.Decision.TheVariants.{NoSync, BitmapSync, FullSync}
use Rattle.model.specs.Contents.{BlockMap, Write}
use Rattle.model.specs.Stream.{StreamItem, WriteItem, SyncUuidItem, IsBeginning, within, ResyncItem}
use Rattle.model.specs.Frames.{Received, UuidsFrame, RsWriteAckFrame}
use Rattle.model.specs.Marks.{Marks, marking, clearing}
use Rattle.model.specs.Primary.{LocalOutcome, Waiting, OnDisk, Failed, Accepted, PrimaryConnection, PrimaryHistory, primary_opening, no_primary_connection}
use Rattle.model.specs.Primary.{primary_connection, change_last}
use Rattle.model.specs.Primary.{last_index, with_primary_connection, is_established, in_resync, accepted_frames, new_primary_connection}
use Rattle.model.specs.PrimarySteps.{opened, submission, submitted, set_outcome, with_outcome, faulted, accepted_at, closing, faulted_by, given}
use Rattle.model.specs.PrimarySteps.{submitted_with}
use Rattle.model.specs.Acknowledgements.{begun_with}
use Rattle.laws.proofs.Lists.Beginnings.{begins-self}
use Rattle.laws.proofs.Lists.Last.{get-change, get-change-back, change-twice, change-none, get-last-changed}
use Rattle.laws.proofs.Primary.Moves.{IsKeptByMoves, IsKeptByReleases, kept-by-releases, with_frame, pushing}
use Rattle.laws.proofs.Primary.Homes.{HasHomes, AllGrow, Grows, grows-self, linked-grows, KeepsConnection, SameWrites, same-writes, open-at, homes-change}
use Rattle.laws.proofs.Primary.Homes.{outcome-write, outcome-home}
use Rattle.laws.proofs.Lists.Elements.{get-left, get-more, get-end}
use Rattle.laws.proofs.Primary.Ends.{no-more, established-parts, not-refused, frames-taking, keeps-self, keeps-pushing, keeps-taking, keeps-refusing}
use Rattle.laws.proofs.Primary.Ends.{keeps-closing}
use Rattle.laws.proofs.Primary.HomesFollowing.{homes-appending, homes-following}
use Rattle.laws.proofs.Rules.RefusedFrames.{refused_out, refused_by, refused-last}
use Rattle.std.proofs.Common.{is_none}

-- Effects.

homes-outcome : (h later : PrimaryHistory) (number : ℕ) (outcome : LocalOutcome) → HasHomes h → later.settings ≡ h.settings → later.connections ≡ h.connections
    → later.writes ≡ map (set_outcome number outcome) h.writes → later.journal ≡ h.journal → HasHomes later
homes-outcome h later number outcome homes settings connections writes journal =
    homes-change h later (λ c. c) homes settings (connections ∙ sym (change-none h.connections)) (rw writes (same-but h.writes)) journal (keeps-self h homes)
  where
    same-but : (ws : List Accepted) → SameWrites ws (map (set_outcome number outcome) ws)
    same-but ws = (
      λ i a at. (
        set_outcome number outcome a,
        slice_get-map (set_outcome number outcome) ws i ∙ ap (option_map (set_outcome number outcome)) at,
        outcome-write number outcome a,
        outcome-home number outcome a,
      ),
      λ i b at. go ws i (slice_get ws i) refl b (sym (slice_get-map (set_outcome number outcome) ws i) ∙ at),
    )
      where
        go : (ws : List Accepted) (i : ℕ) (v : Option Accepted) → slice_get ws i ≡ v → (b : Accepted) → option_map (set_outcome number outcome) v ≡ Some b
            → (a : Accepted) × (slice_get ws i ≡ Some a) × (b.write ≡ a.write) × (b.home ≡ a.home)
        go ws i None is b there = absurd (cc)
        go ws i (Some a) is b there =
            let same : set_outcome number outcome a ≡ b = cc in (
              a,
              is,
              ap (λ (x : Accepted). x.write) (sym same) ∙ outcome-write number outcome a,
              ap (λ (x : Accepted). x.home) (sym same)
                  ∙ outcome-home number outcome a,
            )

homes-writes : (h : PrimaryHistory) (number : ℕ) → HasHomes h → HasHomes (with_outcome number OnDisk h)
homes-writes h number homes = homes-outcome h (with_outcome number OnDisk h) number OnDisk homes refl refl refl refl

homes-faults : (h : PrimaryHistory) (number : ℕ) (offsets : List ℕ) → HasHomes h → HasHomes (faulted number offsets h)
homes-faults h number offsets homes = go (accepted_at h number)
  where
    go : (v : Option Accepted) → HasHomes
        (faulted_by v number offsets h)
    go None = homes
    go (Some accepted) = homes-outcome h
        (with_outcome number (Failed (within (length accepted.write.contents) offsets)) (record h { marks = marking accepted.write h.marks })) number
        (Failed (within (length accepted.write.contents) offsets)) homes refl refl refl refl

-- the last connection changes, and nothing else that matters here
homes-with : (h later : PrimaryHistory) (f : PrimaryConnection → PrimaryConnection) → HasHomes h → later.settings ≡ h.settings
    → later.connections ≡ change_last f h.connections
    → later.writes ≡ h.writes → later.journal ≡ h.journal
    → ((k : ℕ) → slice_get h.connections k ≡ Some (primary_connection h) → KeepsConnection (primary_connection h) (f (primary_connection h))) → HasHomes later
homes-with h later f homes settings connections writes journal keeps = homes-change h later f homes settings connections
    (rw writes (same-writes h.writes)) journal keeps

-- A new connection has an empty stream.
homes-opens : (h : PrimaryHistory) (sync loss : ℕ) → HasHomes h → HasHomes (opened h sync loss)
homes-opens h sync loss homes =
    let new : PrimaryConnection = new_primary_connection sync loss h.tuple in
    let grow : AllGrow h.connections (h.connections ++ new ∷ []) = λ k c at. (c, get-left h.connections (new ∷ []) k c at, grows-self c) in
    record {
      numbered = homes.numbered;
      housed = λ i k place accepted at home. let c = homes.housed i k place accepted at home in (c.0, get-left h.connections (new ∷ []) k c.0 c.1, c.2);
      homed = λ k place c write at item. elim (get-more h.connections new k c at) [
        | inl old ↦ homes.homed k place c write old item
        | inr added ↦ absurd (no-more place write (subst (λ (x : PrimaryConnection). slice_get x.stream place ≡ Some (WriteItem write)) added.1 item))
      ];
      empty = λ k c at fresh. elim (get-more h.connections new k c at)
          [ inl old ↦ homes.empty k c old fresh | inr added ↦ ap (λ (x : PrimaryConnection). x.stream) added.1 ];
      refused = λ k c at was. elim (get-more h.connections new k c at) [
        | inl old ↦ homes.refused k c old was
        | inr added ↦ let no : c.refused ≡ false = ap (λ (x : PrimaryConnection). x.refused) added.1 in absurd (both_ways c.refused no was)
      ];
      journal = λ n entry at linked. linked-grows h.settings.protocol h.connections (h.connections ++ new ∷ []) entry grow (homes.journal n entry at linked);
    }

-- An accepted write goes to the end of the list, and with a stream to the end of it.
homes-submits : (h : PrimaryHistory) (first : ℕ) (contents : List (List ℕ)) → HasHomes h → HasHomes (submitted h first contents)
homes-submits h first contents homes = go (is_established (primary_connection h)) refl
  where
    write : Write
    write = submission h first contents

    go : (b : Bool) → is_established (primary_connection h) ≡ b → HasHomes (submitted_with b h first contents)
    go false is =
        let added : Accepted = record { write = submission h first contents; journal_length = length h.journal; home = None; outcome = Waiting } in
        record {
          numbered = λ i a at. elim (get-more h.writes added i a at) [
            | inl old ↦ homes.numbered i a old
            | inr new ↦ ap (λ (x : Accepted). x.write.number) new.1
                ∙ ap suc (sym new.0)
          ];
          housed = λ i k place a at home. elim (get-more h.writes added i a at) [
            | inl old ↦ homes.housed i k place a old home
            | inr new ↦ absurd (let none : a.home ≡ None = ap (λ (x : Accepted). x.home) new.1 in cc (none, home))
          ];
          homed = λ k place c w at item. let found = homes.homed k place c w at item in (
            found.0,
            found.1,
            get-left h.writes (added ∷ []) found.0 found.1 found.2,
            found.3,
            found.4,
          );
          empty = homes.empty;
          refused = homes.refused;
          journal = homes.journal;
        }
    go true is =
        let c : PrimaryConnection = primary_connection h in
        let standing = established-parts c is in
        let there = open-at h standing.0 in
        let none : PrimaryConnection = no_primary_connection h.tuple in
        let k0 : ℕ = last_index h.connections in
        let p0 : ℕ = length c.stream in
        let w : Write = submission h first contents in
        let added : Accepted = record { write = w; journal_length = length h.journal; home = Some (record { index = k0; place = p0 }); outcome = Waiting } in
        let f : PrimaryConnection → PrimaryConnection = λ x. record x { stream = x.stream ++ WriteItem w ∷ [] } in
        let connections : List PrimaryConnection = change_last f h.connections in
        let growing : (x : PrimaryConnection) → Grows x (f x) = λ x. record {
          stream = (WriteItem w ∷ [], refl);
          pushed = omega arith;
          frames = begins-self (accepted_frames x);
        } in
        let grow : AllGrow h.connections connections =
        λ k x at. elim (get-change f none h.connections k x at) [ inl same ↦ (x, same, grows-self x) | inr changed ↦ (f x, changed.0, growing x) ] in
        let here : slice_get connections k0 ≡ Some (f c) = get-last-changed f none h.connections c there refl in
        record {
          numbered = λ i a at. elim (get-more h.writes added i a at) [
            | inl old ↦ homes.numbered i a old
            | inr new ↦ ap (λ (x : Accepted). x.write.number) new.1
                ∙ ap suc (sym new.0)
          ];
          housed = λ i k place a at home. elim (get-more h.writes added i a at) [
            | inl old ↦
                let was = homes.housed i k place a old home in
                let now = grow k was.0 was.1 in (
                  now.0,
                  now.1,
                  subst (λ (s : List StreamItem). slice_get s place ≡ Some (WriteItem a.write)) now.2.stream.1
                      (get-left was.0.stream now.2.stream.0 place (WriteItem a.write) was.2),
                )
            | inr new ↦
                let here_too : StreamPosition = record { index = k0; place = p0 } in
                let there_too : StreamPosition = record { index = k; place = place } in
                let own : Some here_too ≡ Some there_too = ap (λ (x : Accepted). x.home) (sym new.1) ∙ home in
                let pairs : here_too ≡ there_too = cc in
                let kk : k0 ≡ k = ap (λ (x : StreamPosition). x.index) pairs in
                let pp : p0 ≡ place = ap (λ (x : StreamPosition). x.place) pairs in
                let ww : w ≡ a.write = ap (λ (x : Accepted). x.write) (sym new.1) in (
                  f c,
                  subst (λ (n : ℕ). slice_get connections n ≡ Some (f c)) kk here,
                  subst (λ (n : ℕ). slice_get (f c).stream n ≡ Some (WriteItem a.write)) pp (get-end c.stream (WriteItem w)
                      ∙ ap (λ (x : Write). Some (WriteItem x)) ww),
                )
          ];
          homed = λ k place d v at item.
              let old : (x : PrimaryConnection) → slice_get h.connections k ≡ Some x → slice_get x.stream place ≡ Some (WriteItem v)
              → (i : ℕ) × (a : Accepted) × (slice_get (h.writes ++ added ∷ []) i ≡ Some a) × (a.write ≡ v)
              × (a.home ≡ Some (record { index = k; place = place }))
              = λ x was it. let found = homes.homed k place x v was it in (
                found.0,
                found.1,
                get-left h.writes (added ∷ []) found.0 found.1 found.2,
                found.3,
                found.4,
              ) in
              elim (get-change-back f none h.connections k d at) [
                | inl same ↦ old d same item
                | inr changed ↦
                    let item' : slice_get (c.stream ++ WriteItem w ∷ []) place ≡ Some (WriteItem v) =
                    subst (λ (x : PrimaryConnection). slice_get x.stream place ≡ Some (WriteItem v)) changed.0 item in
                    elim (get-more c.stream (WriteItem w) place (WriteItem v) item') [
                      | inl before ↦ old c changed.1 before
                      | inr new ↦
                          let same : w ≡ v = let e = new.1 in cc in
                          let kk : k0 ≡ k = let n = changed.2 in omega arith in (
                            length h.writes,
                            added,
                            get-end h.writes added,
                            same,
                            ap (λ (n : ℕ). let at : StreamPosition = record { index = n; place = p0 } in
                                Some at) kk ∙ ap (λ (n : ℕ). let at : StreamPosition = record { index = k; place = n } in Some at) (sym new.0),
                          )
                    ]
              ];
          empty = λ k d at fresh. elim (get-change-back f none h.connections k d at) [
            | inl same ↦ homes.empty k d same fresh
            | inr changed ↦ absurd (both_ways c.begun (subst (λ (x : PrimaryConnection). x.begun ≡ false) changed.0 fresh) standing.1)
          ];
          refused = λ k d at was. elim (get-change-back f none h.connections k d at) [
            | inl same ↦ homes.refused k d same was
            | inr changed ↦ subst (λ (x : PrimaryConnection). x.closed ≡ true) (sym changed.0)
                (homes.refused k c changed.1 (subst (λ (x : PrimaryConnection). x.refused ≡ true) changed.0 was))
          ];
          journal = λ n entry at linked. linked-grows h.settings.protocol h.connections connections entry grow (homes.journal n entry at linked);
        }

-- the start of a resync is no write
no-sync : (word n : ℕ) (write : Write) → slice_get (SyncUuidItem word ∷ []) n ≡ Some (WriteItem write) → ⊥
no-sync word zero write at = cc
no-sync word (suc n) write at = cc

-- The stream begins: it was empty.
homes-begins : (h : PrimaryHistory) (peer : Tuple) (decided : Decision) → (primary_connection h).closed ≡ false → (primary_connection h).begun ≡ false
    → HasHomes h
    → HasHomes (begun_with decided (record (with_primary_connection (with_frame (Ok (UuidsFrame peer))) h) { peer = Some peer }))
homes-begins h peer decided standing new homes = go decided
  where
    taken : PrimaryHistory
    taken = record (with_primary_connection (with_frame (Ok (UuidsFrame peer))) h) { peer = Some peer }

    -- the two changes of the connection are one
    beginning : (later : PrimaryHistory) (g : PrimaryConnection → PrimaryConnection) (more : List StreamItem) → later.settings ≡ h.settings
        → later.connections ≡ change_last g (change_last (with_frame (Ok (UuidsFrame peer))) h.connections) → later.writes ≡ h.writes
        → later.journal ≡ h.journal
        → ((c : PrimaryConnection) → (g c).stream ≡ more ⊎ ((g c).stream ≡ c.stream)) → ((c : PrimaryConnection) → (g c).begun ≡ true)
        → ((c : PrimaryConnection) → ((g c).pushed ≡ c.pushed) × ((g c).taken ≡ c.taken) × ((g c).refused ≡ c.refused) × ((g c).closed ≡ c.closed))
        → ((n : ℕ) (write : Write) → slice_get more n ≡ Some (WriteItem write) → ⊥) → HasHomes later
    beginning later g more settings connections writes journal streams begun same no_write =
        homes-with h later (λ c. g (with_frame (Ok (UuidsFrame peer)) c)) homes settings (connections
        ∙ change-twice (with_frame (Ok (UuidsFrame peer))) g h.connections) writes journal (λ k at.
        let c : PrimaryConnection = primary_connection h in
        let d : PrimaryConnection = with_frame (Ok (UuidsFrame peer)) c in
        let was = homes.empty k c at new in
        let s = same d in
        let frames : accepted_frames (g d) ≡ accepted_frames d =
        ap (λ b. if b then take (length (g d).taken - 1) (g d).taken else (g d).taken) s.2
        ∙ ap (λ (l : List Received). if d.refused then take (length l - 1) l else l) s.1 in
        record {
          more = (g d).stream;
          stream = sym (ap (λ (l : List StreamItem). l ++ (g d).stream) was);
          no_write = λ n write there. elim (streams d) [
            | inl is ↦ no_write n write (subst (λ (l : List StreamItem). slice_get l n ≡ Some (WriteItem write)) is there)
            | inr is ↦ no-more n write (subst (λ (l : List StreamItem). slice_get l n ≡ Some (WriteItem write)) (is ∙ was) there)
          ];
          pushed = let e = s.0 in omega arith;
          frames = subst (λ (l : List Received). IsBeginning (accepted_frames c) l) (sym frames)
              (frames-taking c (Ok (UuidsFrame peer)) (not-refused h homes standing k at));
          empty = λ fresh. absurd (both_ways (g d).begun fresh (begun d));
          refused = λ r. s.3 ∙ homes.refused k c at (sym s.2 ∙ r);
        })

    go : (v : Decision) → HasHomes (begun_with v (record (with_primary_connection (with_frame (Ok (UuidsFrame peer))) h) { peer = Some peer }))
    go NoSync = beginning (begun_with NoSync taken) (λ c. record c { begun = true }) [] refl refl refl refl (λ c. inr refl) (λ c. refl)
        (λ c. (refl, refl, refl, refl)) no-more
    go BitmapSync =
        beginning (begun_with BitmapSync taken) (λ c. record c { begun = true; stream = SyncUuidItem (primary_connection taken).sync ∷ [] })
        (SyncUuidItem (primary_connection taken).sync ∷ []) refl refl refl refl (λ c. inl refl) (λ c. refl) (λ c. (refl, refl, refl, refl))
        (no-sync (primary_connection taken).sync)
    go FullSync =
        beginning (begun_with FullSync taken) (λ c. record c { begun = true; stream = SyncUuidItem (primary_connection taken).sync ∷ [] })
        (SyncUuidItem (primary_connection taken).sync ∷ []) refl refl refl refl (λ c. inl refl) (λ c. refl) (λ c. (refl, refl, refl, refl))
        (no-sync (primary_connection taken).sync)

-- Every move keeps the homes and the journal's promises.
-- nor whether all is faithful
pub homes-faithful : (h : PrimaryHistory) (faithful : Bool) → HasHomes h → HasHomes (record h { faithful = faithful })
homes-faithful h faithful homes = record {
  numbered = homes.numbered;
  housed = homes.housed;
  homed = homes.homed;
  empty = homes.empty;
  refused = homes.refused;
  journal = homes.journal;
}

pub homes-kept : IsKeptByMoves HasHomes HasHomes
homes-kept = record {
  following = homes-following;
  opens = λ h sync loss closed fresh homes. homes-opens h sync loss homes;
  submits = λ h first contents may homes. homes-submits h first contents homes;
  writes = λ h number waiting homes. homes-writes h number homes;
  faults = λ h number offsets waiting homes. homes-faults h number offsets homes;
  sends = λ h standing due homes. homes-with h (with_primary_connection pushing h) pushing homes refl refl refl refl (keeps-pushing h homes);
  greets = λ h frame standing new met homes. homes-with h (with_primary_connection (with_frame frame) h) (with_frame frame) homes refl refl refl refl
      (keeps-taking h frame homes standing);
  begins = λ h peer decided standing new late is fresh homes. homes-begins h peer decided standing new homes;
  receives = λ h ack standing begun may homes. homes-with h _ (with_frame _) homes refl refl refl refl (keeps-taking h _ homes standing);
  applies = λ h ack standing begun may homes. homes-with h _ (with_frame _) homes refl refl refl refl (keeps-taking h _ homes standing);
  clears =
      λ h ack standing begun may homes. homes-with h
      (record (with_primary_connection (with_frame (Ok (RsWriteAckFrame ack))) h) { marks = clearing ack.first h.marks })
      (with_frame (Ok (RsWriteAckFrame ack))) homes refl refl refl refl (keeps-taking h (Ok (RsWriteAckFrame ack)) homes standing);
  confirms = λ h number size standing begun turn homes. homes-with h _ (with_frame _) homes refl refl refl refl (keeps-taking h _ homes standing);
  refuses = λ h frame peer standing homes. homes-with h (closing (refused_by frame peer h))
      (refused_out frame) homes refl
      (refused-last frame peer h) refl refl
      (keeps-refusing h frame homes standing);
  resyncs = λ h block read may runs alone is homes. homes-faithful _ (is_none read && h.faithful) (homes-appending h (ResyncItem block (given read h block)) (λ write e. cc)
      (established-parts (primary_connection h) (and_parts (is_established (primary_connection h)) (in_resync (primary_connection h).stream) runs).0).1 homes);
  closes = λ h standing homes. homes-with h (closing h) (λ c. record c { closed = true }) homes refl refl refl refl (keeps-closing h homes);
  receipts = λ h number homes. record {
    numbered = homes.numbered;
    housed = homes.housed;
    homed = homes.homed;
    empty = homes.empty;
    refused = homes.refused;
    journal = homes.journal;
  };
}

-- no mark matters to them
pub homes-marks : (h : PrimaryHistory) (marks : Marks) → HasHomes h → HasHomes (record h { marks = marks })
homes-marks h marks homes = record {
  numbered = homes.numbered;
  housed = homes.housed;
  homed = homes.homed;
  empty = homes.empty;
  refused = homes.refused;
  journal = homes.journal;
}

pub homes-released : IsKeptByReleases HasHomes HasHomes
homes-released = kept-by-releases HasHomes HasHomes homes-marks

-- a primary opens with no writes, and no connections
pub homes-opening : (settings : Settings) (disk : BlockMap) (tuple : Tuple) (marks : ℕ → Bool) → HasHomes (primary_opening settings disk tuple marks)
homes-opening settings disk tuple marks = record {
  numbered = λ i a at. absurd (cc);
  housed = λ i k place a at home. absurd (cc);
  homed = λ k place c write at item. absurd (cc);
  empty = λ k c at fresh. absurd (cc);
  refused = λ k c at was. absurd (cc);
  journal = λ n entry at linked. absurd (cc);
}
