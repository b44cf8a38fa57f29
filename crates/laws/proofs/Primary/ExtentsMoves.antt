-- The active extents of a primary are never more than its slots.
use Rattle.std.proofs.Common.{ℕ, ◌≡◌, ◌≤◌, ◌<◌, ◌⊎◌, inl, inr, Bool, true, false, not, List, [], ◌∷◌, ◌++◌, length, map, Option, Some, None, slice_get}
use Rattle.std.proofs.Common.{Ok, refl, sym, ◌∙◌, ap, subst, arith, ◌==◌}
use Rattle.std.specs.Prelude.{if◌then◌else◌, option_map, unwrap_or}
use Rattle.std.proofs.lemmas.Bool.{both_ways, not-true, false_from_ne_true}
use Rattle.std.proofs.lemmas.Option.{slice_get-map, slice_get_within}
use Rattle.blocks.specs.Positions.{StreamPosition}
use Rattle.blocks.specs.declared.settings.Settings.{Settings}
use Rattle.blocks.specs.declared.tuple.Tuple.{Tuple}
use Rattle.blocks.specs.declared.outcome.Decision.{Decision}
use Rattle.blocks.specs.declared.outcome.Decision.TheVariants.{NoSync, BitmapSync, FullSync}
use Rattle.model.specs.Contents.{BlockMap, Write, extent_of}
use Rattle.model.specs.Stream.{StreamItem, WriteItem, ResyncItem, BarrierItem, SyncUuidItem, UuidsItem, IsBeginning, epoch_of, last_epoch, within}
use Rattle.model.specs.Frames.{UuidsFrame, Received}
use Rattle.model.specs.Identifiers.{sync_end}
use Rattle.model.specs.Primary.{LocalOutcome, Waiting, OnDisk, Failed, Accepted, PrimaryConnection, PrimaryHistory, primary_opening, no_primary_connection}
use Rattle.model.specs.Primary.{primary_connection, last_index}
use Rattle.model.specs.Primary.{change_last, with_primary_connection, is_established, local_map, accepted_frames, is_barrier_ack, barrier_acknowledged}
use Rattle.model.specs.Primary.{is_waiting, is_confirmed}
use Rattle.model.specs.Primary.{is_alone, is_released, unreleased, active_extents}
use Rattle.model.specs.PrimarySteps.{follows, activity_is_full, submission, submitted, set_outcome, faulted, accepted_at, opened, given}
use Rattle.model.specs.PrimarySteps.{submitted_with, faulted_by}
use Rattle.model.specs.Acknowledgements.{begun_with}
use Rattle.model.specs.LocalRuns.{PrimaryEvent, primary_run}
use Rattle.laws.proofs.Rules.ActiveExtents.{has, has-extent, extents-bound, more-extents}
use Rattle.laws.proofs.Lists.Beginnings.{begins-self, any-grows}
use Rattle.laws.proofs.Lists.Last.{get-change, change-twice}
use Rattle.laws.proofs.Streams.Places.{epoch-grows}
use Rattle.laws.proofs.Primary.Moves.{following-from, IsKeptByMoves, IsKeptByReleases, kept-by-releases, MaySubmit, keeps-run, with_frame, pushing}
use Rattle.laws.proofs.Primary.Homes.{alone-homeless, HasHomes, alone-at, confirmed-at}
use Rattle.laws.proofs.Primary.HomesMoves.{homes-kept, homes-marks, homes-opening}
use Rattle.laws.proofs.Lists.Elements.{get-left, get-more}
use Rattle.laws.proofs.Lists.Picks.{filtered-pick, pick-filtered}
use Rattle.laws.proofs.Primary.Ends.{not-refused, frames-taking}
use Rattle.laws.proofs.Primary.HomesFollowing.{homes-completions, homes-ending, homes-parting}
use Rattle.laws.proofs.Rules.RefusedFrames.{refused_out, refused-last}
use Rattle.laws.proofs.Rules.Releases.{is_freed, freed-cases, freed-confirmed, freed-alone, released-parts, released-by}

-- A later state of a connection, at which what was released stays so: a closed end stays closed, and what is confirmed
-- stays confirmed, or the end is closed.
pub record KeepsRelease (c d : PrimaryConnection) : Type 0 where
  pub closed : c.closed ≡ true → d.closed ≡ true
  pub confirmed : (place : ℕ) → place < length c.stream → barrier_acknowledged c (epoch_of c.stream place) ≡ true
      → (barrier_acknowledged d (epoch_of d.stream place) ≡ true) ⊎ (d.closed ≡ true)

pub keeps-self : (c : PrimaryConnection) → KeepsRelease c c
keeps-self c = record { closed = λ was. was; confirmed = λ place within was. inl was }

-- a stream and accepted frames that have only grown
pub keeps-growing : (c d : PrimaryConnection) → d.closed ≡ c.closed → IsBeginning c.stream d.stream → IsBeginning (accepted_frames c) (accepted_frames d)
    → KeepsRelease c d
keeps-growing c d same stream frames = record {
  closed = λ was. same ∙ was;
  confirmed = λ place within was.
      let epoch : epoch_of d.stream place ≡ epoch_of c.stream place = ap (λ (l : List StreamItem). epoch_of l place) (sym stream.1)
      ∙ epoch-grows c.stream stream.0 place (omega arith) in
      inl (ap (barrier_acknowledged d) epoch ∙ any-grows (is_barrier_ack (epoch_of c.stream place)) (accepted_frames c) (accepted_frames d) frames was);
}

-- an end that is closed now
pub keeps-closed : (c d : PrimaryConnection) → d.closed ≡ true → KeepsRelease c d
keeps-closed c d closed = record { closed = λ was. closed; confirmed = λ place within was. inr closed }

-- each connection keeps what was released
abbrev pub AllKeep : List PrimaryConnection → List PrimaryConnection → Type 0
AllKeep cs ds = (k : ℕ) (c : PrimaryConnection) → slice_get cs k ≡ Some c → (d : PrimaryConnection) × (slice_get ds k ≡ Some d) × KeepsRelease c d

-- accepted writes that are the same, but that the local disk may have finished
abbrev pub LaterWrites : List Accepted → List Accepted → Type 0
LaterWrites ws vs = (i : ℕ) (b : Accepted) → slice_get vs i ≡ Some b
    → (a : Accepted) × (slice_get ws i ≡ Some a) × (b.write ≡ a.write) × (b.home ≡ a.home) × (is_waiting a.outcome ≡ false → is_waiting b.outcome ≡ false)

pub later-self : (ws : List Accepted) → LaterWrites ws ws
later-self ws i b at = (b, at, refl, refl, λ done. done)

-- a write that was released is so later
pub released-later : (h later : PrimaryHistory) (i : ℕ) (a b : Accepted) → HasHomes h → AllKeep h.connections later.connections → slice_get h.writes i ≡ Some a
    → b.home ≡ a.home
    → (is_waiting a.outcome ≡ false → is_waiting b.outcome ≡ false)
    → is_released h a ≡ true → is_released later b ≡ true
released-later h later i a b homes keep at same done released =
    let parts = released-parts h a released in released-by later b (done parts.done) (go a.home refl parts.freed)
  where
    go : (v : Option StreamPosition) → a.home ≡ v → is_freed h a ≡ true → is_freed later b ≡ true
    go None is was = freed-alone later b (alone-homeless later b (same ∙ is))
    go (Some home) is was =
        let housed = homes.housed i home.index home.place a at is in
        let c : PrimaryConnection = housed.0 in
        let now = keep home.index c housed.1 in
        let d : PrimaryConnection = now.0 in
        let confirmed : is_confirmed later b ≡ barrier_acknowledged d (epoch_of d.stream home.place) = confirmed-at later b home d (same ∙ is) now.1 in
        let alone : is_alone later b ≡ d.closed = alone-at later b home d (same ∙ is) now.1 in
        elim (freed-cases h a was) [
          | inl before ↦ elim (now.2.confirmed home.place (slice_get_within c.stream home.place (WriteItem a.write) housed.2)
              (sym (confirmed-at h a home c is housed.1) ∙ before)) [
                | inl still ↦ freed-confirmed later b (confirmed ∙ still)
                | inr closed ↦ freed-alone later b (alone ∙ closed)
              ]
          | inr before ↦ freed-alone later b (alone ∙ now.2.closed (sym (alone-at h a home c is housed.1) ∙ before))
        ]

-- the extent of a write that is unreleased later, and was there before, was active before
was-active : (h later : PrimaryHistory) (i : ℕ) (a b : Accepted) → HasHomes h → AllKeep h.connections later.connections → slice_get h.writes i ≡ Some a
    → b.write ≡ a.write → b.home ≡ a.home
    → (is_waiting a.outcome ≡ false → is_waiting b.outcome ≡ false)
    → not (is_released later b) ≡ true → has (active_extents h) (extent_of b.write.first) ≡ true
was-active h later i a b homes keep at write home done left =
    let open_before : is_released h a ≡ false =
    false_from_ne_true (is_released h a)
    (λ released. both_ways (is_released later b) (not-true (is_released later b) left) (released-later h later i a b homes keep at home done released)) in
    let there = filtered-pick (λ (x : Accepted). not (is_released h x)) h.writes i a at (ap not open_before) in
    subst (λ (w : Write). has (active_extents h) (extent_of w.first) ≡ true) (sym write) (has-extent (unreleased h) there.0 a there.1)

-- The primary has these settings, and no more active extents than slots.
pub record HasFewExtents (settings : Settings) (h : PrimaryHistory) : Type 0 where
  pub setting : h.settings ≡ settings
  pub few : length (active_extents h) ≤ settings.slots

-- no write is added
few-later : (settings : Settings) (h later : PrimaryHistory) → later.settings ≡ h.settings → AllKeep h.connections later.connections
    → LaterWrites h.writes later.writes → HasHomes h
    → HasFewExtents settings h → HasFewExtents settings later
few-later settings h later same keep writes homes few =
    let less = extents-bound (unreleased later) (active_extents h) (λ i b at.
    let found = pick-filtered (λ (x : Accepted). not (is_released later x)) later.writes i b at in
    let old = writes found.0 b found.1 in
    was-active h later found.0 old.0 b homes keep old.1 old.2 old.3 old.4 found.2) in
    let bound = few.few in
    record { setting = same ∙ few.setting; few = omega arith }

-- an accepted write more, whose extent is active or finds a slot
few-added : (settings : Settings) (h later : PrimaryHistory) (added : Accepted) → later.settings ≡ h.settings → AllKeep h.connections later.connections
    → later.writes ≡ h.writes ++ added ∷ [] → activity_is_full h (extent_of added.write.first) ≡ false
    → HasHomes h → HasFewExtents settings h → HasFewExtents settings later
few-added settings h later added same keep writes room homes few =
    let slots : h.settings.slots ≡ settings.slots = ap (λ (s : Settings). s.slots) few.setting in
    let before = few.few in
    let bound = more-extents (unreleased h) (unreleased later) added h.settings.slots room (omega arith) (λ i b at.
    let found = pick-filtered (λ (x : Accepted). not (is_released later x)) later.writes i b at in
    elim (get-more h.writes added found.0 b (subst (λ (l : List Accepted). slice_get l found.0 ≡ Some b) writes found.1)) [
      | inl old ↦ inl (was-active h later found.0 b b homes keep old refl refl (λ done. done) found.2)
      | inr new ↦ inr new.1
    ]) in
    record { setting = same ∙ few.setting; few = omega arith }

-- no connection changes
keep-same : (cs ds : List PrimaryConnection) → ds ≡ cs → AllKeep cs ds
keep-same cs ds same k c at = (c, subst (λ (l : List PrimaryConnection). slice_get l k ≡ Some c) (sym same) at, keeps-self c)

-- the last connection changes
keep-change : (h : PrimaryHistory) (ds : List PrimaryConnection) (f : PrimaryConnection → PrimaryConnection) → ds ≡ change_last f h.connections
    → ((k : ℕ) → slice_get h.connections k ≡ Some (primary_connection h) → KeepsRelease (primary_connection h) (f (primary_connection h)))
    → AllKeep h.connections ds
keep-change h ds f connections keeps k c at =
    let old : (x : PrimaryConnection) → slice_get (change_last f h.connections) k ≡ Some x
    → slice_get ds k ≡ Some x = λ x there. subst (λ (l : List PrimaryConnection). slice_get l k ≡ Some x) (sym connections) there in
    elim (get-change f (no_primary_connection h.tuple) h.connections k c at) [
      | inl same ↦ (c, old c same, keeps-self c)
      | inr changed ↦ (
        f c,
        old (f c) changed.0,
        subst (λ (x : PrimaryConnection). KeepsRelease x (f x)) (sym changed.1) (keeps k (at ∙ ap (λ (x : PrimaryConnection). Some x) changed.1)),
      )
    ]

-- the last connection changes, and no write
few-change : (settings : Settings) (h later : PrimaryHistory) (f : PrimaryConnection → PrimaryConnection) → later.settings ≡ h.settings
    → later.connections ≡ change_last f h.connections → later.writes ≡ h.writes
    → ((k : ℕ) → slice_get h.connections k ≡ Some (primary_connection h) → KeepsRelease (primary_connection h) (f (primary_connection h))) → HasHomes h
    → HasFewExtents settings h
    → HasFewExtents settings later
few-change settings h later f same connections writes keeps homes few =
    few-later settings h later same (keep-change h later.connections f connections keeps) (subst (LaterWrites h.writes) (sym writes) (later-self h.writes))
    homes few

-- an item goes to the end of a stream
keeps-appending : (c : PrimaryConnection) (item : StreamItem) → KeepsRelease c (record c { stream = c.stream ++ item ∷ [] })
keeps-appending c item = keeps-growing c (record c { stream = c.stream ++ item ∷ [] }) refl (item ∷ [], refl) (begins-self (accepted_frames c))

few-appending : (settings : Settings) (h later : PrimaryHistory) (item : StreamItem) → later.settings ≡ h.settings
    → later.connections ≡ change_last (λ c. record c { stream = c.stream ++ item ∷ [] }) h.connections → later.writes ≡ h.writes → HasHomes h
    → HasFewExtents settings h
    → HasFewExtents settings later
few-appending settings h later item same connections writes homes few =
    few-change settings h later (λ c. record c { stream = c.stream ++ item ∷ [] }) same connections writes (λ k at. keeps-appending (primary_connection h) item)
    homes few

-- a frame is taken
keeps-taking : (h : PrimaryHistory) (frame : Received) → HasHomes h → (primary_connection h).closed ≡ false → (k : ℕ)
    → slice_get h.connections k ≡ Some (primary_connection h)
    → KeepsRelease (primary_connection h) (with_frame frame (primary_connection h))
keeps-taking h frame homes standing k at = keeps-growing (primary_connection h) (with_frame frame (primary_connection h)) refl
    (begins-self (primary_connection h).stream)
    (frames-taking (primary_connection h) frame (not-refused h homes standing k at))

-- what holds between steps, and after a step's effect
abbrev Both : Settings → PrimaryHistory → Type 0
Both settings h = HasHomes h × HasFewExtents settings h

few-following : (settings : Settings) (h : PrimaryHistory) → Both settings h → Both settings (follows h).history
few-following settings = following-from (Both settings) (Both settings) (Both settings)
    (λ h p. (homes-completions h p.0, few-later settings h _ refl (keep-same h.connections h.connections refl) (later-self h.writes) p.0 p.1))
    (λ g over p. (homes-parting g over p.0, few-appending settings g _ (BarrierItem (last_epoch (primary_connection g).stream)) refl refl refl p.0 p.1))
    (λ g on p. p)
    (λ g over p. (homes-ending g over p.0, few-appending settings g _ (UuidsItem (sync_end g.tuple)) refl refl refl p.0 p.1)) (λ g p. p)

-- an accepted write has an active extent, or finds a slot
few-submits : (settings : Settings) (h : PrimaryHistory) (first : ℕ) (contents : List (List ℕ)) → MaySubmit h first contents → HasHomes h
    → HasFewExtents settings h → HasFewExtents settings (submitted h first contents)
few-submits settings h first contents may homes few = go (is_established (primary_connection h))
  where
    go : (b : Bool) → HasFewExtents settings (submitted_with b h first contents)
    go true = few-added settings h _
        (record {
          write = submission h first contents;
          journal_length = length h.journal;
          home = Some (record { index = last_index h.connections; place = length (primary_connection h).stream });
          outcome = Waiting;
        }) refl
        (keep-change h _ (λ c. record c { stream = c.stream ++ WriteItem (submission h first contents) ∷ [] }) refl
        (λ k at. keeps-appending (primary_connection h) (WriteItem (submission h first contents)))) refl may.active homes few
    go false =
        few-added settings h _ (record { write = submission h first contents; journal_length = length h.journal; home = None; outcome = Waiting }) refl
        (keep-same h.connections h.connections refl) refl may.active homes few

-- the local disk finishes a write
few-outcome : (settings : Settings) (h later : PrimaryHistory) (number : ℕ) (outcome : LocalOutcome) → is_waiting outcome ≡ false → later.settings ≡ h.settings
    → later.connections ≡ h.connections → later.writes ≡ map (set_outcome number outcome) h.writes → HasHomes h → HasFewExtents settings h
    → HasFewExtents settings later
few-outcome settings h later number outcome finished same connections writes homes few =
    few-later settings h later same (keep-same h.connections later.connections connections)
    (subst (LaterWrites h.writes) (sym writes) (λ i b at. find i b (slice_get h.writes i) refl (sym (slice_get-map (set_outcome number outcome) h.writes i)
    ∙ at))) homes few
  where
    put : (a : Accepted) → ((set_outcome number outcome a).write ≡ a.write) × ((set_outcome number outcome a).home ≡ a.home) × (is_waiting a.outcome ≡ false
        → is_waiting (set_outcome number outcome a).outcome ≡ false)
    put a = elim (a.write.number == number) as
        (λ b. ((if b then record a { outcome = outcome } else a).write ≡ a.write) × ((if b then record a { outcome = outcome } else a).home ≡ a.home)
        × (is_waiting a.outcome ≡ false → is_waiting (if b then record a { outcome = outcome } else a).outcome ≡ false))
        [ true ↦ (refl, refl, λ done. finished) | false ↦ (refl, refl, λ done. done) ]

    find : (i : ℕ) (b : Accepted) (v : Option Accepted) → slice_get h.writes i ≡ v → option_map (set_outcome number outcome) v ≡ Some b
        → (a : Accepted) × (slice_get h.writes i ≡ Some a) × (b.write ≡ a.write) × (b.home ≡ a.home) × (is_waiting a.outcome ≡ false
        → is_waiting b.outcome ≡ false)
    find i b None is there = absurd (cc)
    find i b (Some a) is there =
        let same : set_outcome number outcome a ≡ b = cc in
        let kept = put a in (
          a,
          is,
          ap (λ (x : Accepted). x.write) (sym same) ∙ kept.0,
          ap (λ (x : Accepted). x.home) (sym same)
              ∙ kept.1,
          λ done. subst (λ (x : Accepted). is_waiting x.outcome ≡ false) same (kept.2 done),
        )

few-faults : (settings : Settings) (h : PrimaryHistory) (number : ℕ) (offsets : List ℕ) → HasHomes h → HasFewExtents settings h
    → HasFewExtents settings (faulted number offsets h)
few-faults settings h number offsets homes few = go (accepted_at h number)
  where
    go : (v : Option Accepted) → HasFewExtents settings
        (faulted_by v number offsets h)
    go None = few
    go (Some accepted) = few-outcome settings h _ number (Failed (within (length accepted.write.contents) offsets)) refl refl refl refl homes few

-- a stream that begins was empty
few-begins : (settings : Settings) (h : PrimaryHistory) (peer : Tuple) (decided : Decision) → (primary_connection h).closed ≡ false
    → (primary_connection h).begun ≡ false
    → HasHomes h → HasFewExtents settings h
    → HasFewExtents settings (begun_with decided (record (with_primary_connection (with_frame (Ok (UuidsFrame peer))) h) { peer = Some peer }))
few-begins settings h peer decided standing new homes few = go decided
  where
    taken : PrimaryHistory
    taken = record (with_primary_connection (with_frame (Ok (UuidsFrame peer))) h) { peer = Some peer }

    twice : (later : PrimaryHistory) (g : PrimaryConnection → PrimaryConnection) → later.settings ≡ h.settings
        → later.connections ≡ change_last g (change_last (with_frame (Ok (UuidsFrame peer))) h.connections) → later.writes ≡ h.writes
        → (g (with_frame (Ok (UuidsFrame peer)) (primary_connection h))).closed ≡ (primary_connection h).closed
        → accepted_frames (g (with_frame (Ok (UuidsFrame peer)) (primary_connection h))) ≡ accepted_frames
        (with_frame (Ok (UuidsFrame peer)) (primary_connection h))
        → HasFewExtents settings later
    twice later g same connections writes closed frames = few-change settings h later (λ c. g (with_frame (Ok (UuidsFrame peer)) c)) same (connections
        ∙ change-twice (with_frame (Ok (UuidsFrame peer))) g h.connections) writes
        (λ k at. keeps-growing (primary_connection h) (g (with_frame (Ok (UuidsFrame peer)) (primary_connection h))) closed (
          (g (with_frame (Ok (UuidsFrame peer)) (primary_connection h))).stream,
          ap (λ (l : List StreamItem). l ++ (g (with_frame (Ok (UuidsFrame peer)) (primary_connection h))).stream)
              (homes.empty k (primary_connection h) at new),
        )
        (subst (IsBeginning (accepted_frames (primary_connection h))) (sym frames)
        (frames-taking (primary_connection h) (Ok (UuidsFrame peer)) (not-refused h homes standing k at))))
        homes few

    go : (v : Decision) → HasFewExtents settings (begun_with v (record (with_primary_connection (with_frame (Ok (UuidsFrame peer))) h) { peer = Some peer }))
    go NoSync = twice _ (λ c. record c { begun = true }) refl refl refl refl refl
    go BitmapSync = twice _ (λ c. record c { begun = true; stream = SyncUuidItem (primary_connection taken).sync ∷ [] }) refl refl refl refl refl
    go FullSync = twice _ (λ c. record c { begun = true; stream = SyncUuidItem (primary_connection taken).sync ∷ [] }) refl refl refl refl refl

few-taking : (settings : Settings) (h later : PrimaryHistory) (frame : Received) → (primary_connection h).closed ≡ false → later.settings ≡ h.settings
    → later.connections ≡ change_last (with_frame frame) h.connections → later.writes ≡ h.writes → HasHomes h → HasFewExtents settings h
    → HasFewExtents settings later
few-taking settings h later frame standing same connections writes homes few = few-change settings h later (with_frame frame) same connections writes
    (keeps-taking h frame homes standing) homes few

few-kept : (settings : Settings) → IsKeptByMoves (Both settings) (Both settings)
few-kept settings = record {
  following = few-following settings;
  opens = λ h sync loss closed fresh p. (
    homes-kept.opens h sync loss closed fresh p.0,
    few-later settings h (opened h sync loss) refl (λ k c at. (c, get-left h.connections _ k c at, keeps-self c)) (later-self h.writes) p.0 p.1,
  );
  submits = λ h first contents may p. (homes-kept.submits h first contents may p.0, few-submits settings h first contents may p.0 p.1);
  writes = λ h number waiting p. (homes-kept.writes h number waiting p.0, few-outcome settings h _ number OnDisk refl refl refl refl p.0 p.1);
  faults = λ h number offsets waiting p. (homes-kept.faults h number offsets waiting p.0, few-faults settings h number offsets p.0 p.1);
  sends =
      λ h standing due p. (
        homes-kept.sends h standing due p.0,
        few-change settings h _ pushing refl refl refl
            (λ k at. keeps-growing (primary_connection h) (pushing (primary_connection h)) refl (begins-self (primary_connection h).stream)
            (begins-self (accepted_frames (primary_connection h)))) p.0 p.1,
      );
  greets = λ h frame standing new met p. (homes-kept.greets h frame standing new met p.0, few-taking settings h _ frame standing refl refl refl p.0 p.1);
  begins = λ h peer decided standing new late is fresh p. (
    homes-kept.begins h peer decided standing new late is fresh p.0,
    few-begins settings h peer decided standing new p.0 p.1,
  );
  receives = λ h ack standing begun may p. (homes-kept.receives h ack standing begun may p.0, few-taking settings h _ _ standing refl refl refl p.0 p.1);
  applies = λ h ack standing begun may p. (homes-kept.applies h ack standing begun may p.0, few-taking settings h _ _ standing refl refl refl p.0 p.1);
  clears = λ h ack standing begun may p. (homes-kept.clears h ack standing begun may p.0, few-taking settings h _ _ standing refl refl refl p.0 p.1);
  confirms = λ h number size standing begun turn p. (
    homes-kept.confirms h number size standing begun turn p.0,
    few-taking settings h _ _ standing refl refl refl p.0 p.1,
  );
  refuses = λ h frame peer standing p. (
    homes-kept.refuses h frame peer standing p.0,
    few-change settings h _ (refused_out frame) refl
        (refused-last frame peer h) refl
        (λ k at. keeps-closed (primary_connection h) _ refl) p.0 p.1,
  );
  resyncs = λ h block read may runs alone is p. (
    homes-kept.resyncs h block read may runs alone is p.0,
    few-appending settings h _ (ResyncItem block (given read h block)) refl refl refl p.0 p.1,
  );
  closes = λ h standing p. (
    homes-kept.closes h standing p.0,
    few-change settings h _ (λ c. record c { closed = true }) refl refl refl (λ k at. keeps-closed (primary_connection h) _ refl) p.0 p.1,
  );
  receipts = λ h number p. (
    homes-kept.receipts h number p.0,
    few-later settings h _ refl (keep-same h.connections h.connections refl) (later-self h.writes) p.0 p.1,
  );
}

few-released : (settings : Settings) → IsKeptByReleases (Both settings) (Both settings)
few-released settings = kept-by-releases (Both settings) (Both settings)
    (λ h marks p. (homes-marks h marks p.0, record { setting = p.1.setting; few = p.1.few }))

-- what holds of a primary after every run from an opening: its settings are those of the opening, and its extents few
pub primary-few : (settings : Settings) (disk : BlockMap) (tuple : Tuple) (marks : ℕ → Bool) (events : List PrimaryEvent)
    → HasFewExtents settings (primary_run events (primary_opening settings disk tuple marks))
primary-few settings disk tuple marks events =
    (keeps-run (Both settings) (Both settings) (few-kept settings) (few-released settings) events (primary_opening settings disk tuple marks)
    (homes-opening settings disk tuple marks, record { setting = refl; few = omega arith })).1

-- Whatever frames a primary takes, its active extents are no more than its slots.
pub primary_extents : (settings : Settings) (disk : BlockMap) (tuple : Tuple) (marks : ℕ → Bool) (events : List PrimaryEvent)
    → length (active_extents (primary_run events (primary_opening settings disk tuple marks))) ≤ settings.slots
primary_extents settings disk tuple marks events = (primary-few settings disk tuple marks events).few
