-- Every move of a primary keeps its streams lawful, and after every step the last epoch of a stream that stands is open.
use Rattle.std.proofs.Common.{ℕ, ◌≡◌, inl, inr, Bool, true, false, List, [], ◌∷◌, ◌++◌, length, Option, Some, None, slice_get, Ok, refl, sym, ◌∙◌, ap, subst}
use Rattle.std.proofs.Common.{arith, nat_lt}
use Rattle.std.specs.Prelude.{unwrap_or}
use Rattle.std.proofs.lemmas.Bool.{both_ways, and_parts}
use Rattle.blocks.specs.declared.settings.Settings.{Settings}
use Rattle.blocks.specs.declared.tuple.Tuple.{Tuple}
use Rattle.blocks.specs.declared.outcome.Decision.{Decision}
use Rattle.blocks.specs.declared.outcome.Decision.TheVariants.{NoSync, BitmapSync, FullSync}
use Rattle.blocks.specs.SettingsRange.{IsInRange}
use Rattle.model.specs.Contents.{BlockMap}
use Rattle.model.specs.Stream.{StreamItem, WriteItem, ResyncItem, BarrierItem, SyncUuidItem, UuidsItem, last_epoch, epoch_size, IsLawful}
use Rattle.model.specs.Frames.{UuidsFrame}
use Rattle.model.specs.Identifiers.{sync_end}
use Rattle.model.specs.Marks.{Marks}
use Rattle.model.specs.Primary.{Accepted, PrimaryConnection, PrimaryHistory, primary_opening, no_primary_connection, primary_connection, last_of, change_last}
use Rattle.model.specs.Primary.{with_primary_connection, is_established, in_resync, local_map, under_way, free_block, new_primary_connection}
use Rattle.model.specs.PrimarySteps.{epoch_is_over, appending, resync_is_over, ending_resync, follows, submission, submitted, faulted, copying, given}
use Rattle.model.specs.PrimarySteps.{accepted_at, opened, submitted_with, faulted_by}
use Rattle.model.specs.Acknowledgements.{begun_with}
use Rattle.model.specs.LocalRuns.{PrimaryEvent, primary_run}
use Rattle.laws.proofs.Lists.Last.{get-change-back, change-twice, last-change}
use Rattle.laws.proofs.Rules.EpochEnds.{most_writes, TakesWrites, takes-writes, HasRoom, goes-on, over-standing, not-over, empty-on}
use Rattle.laws.proofs.Streams.Places.{barriers-append}
use Rattle.laws.proofs.Primary.Moves.{following-from, IsKeptByMoves, IsKeptByReleases, kept-by-releases, MaySubmit, keeps-run, with_frame, pushing}
use Rattle.laws.proofs.Primary.Homes.{HasHomes}
use Rattle.laws.proofs.Primary.HomesMoves.{homes-kept, homes-marks, homes-opening}
use Rattle.laws.proofs.Primary.StaysClosed.{open-established}
use Rattle.laws.proofs.Rules.ResyncEnds.{over-established}
use Rattle.laws.proofs.Streams.Lawful.{MayFollow, lawful-append, lawful-empty, meets-none, size-grow, barrier-empties}
use Rattle.laws.proofs.Primary.LastEpoch.{unsettled-more, write-follows, resync-follows}
use Rattle.laws.proofs.Lists.Elements.{get-more}
use Rattle.laws.proofs.Rules.RefusedFrames.{refused_out, refused-last}

-- all streams are lawful
pub record HasLawfulStreams (settings : Settings) (h : PrimaryHistory) : Type 0 where
  pub setting : h.settings ≡ settings
  pub lawful : (k : ℕ) (c : PrimaryConnection) → slice_get h.connections k ≡ Some c → IsLawful (most_writes settings) c.stream

-- and the last epoch of a stream that stands is not over
pub record IsLawfulBetween (settings : Settings) (h : PrimaryHistory) : Type 0 where
  pub streams : HasLawfulStreams settings h
  pub on : epoch_is_over h ≡ false

-- What follows a step's effect.

-- the last end after a change of it
pub last-changed : (h : PrimaryHistory) (f : PrimaryConnection → PrimaryConnection) (other : PrimaryConnection) → (primary_connection h).closed ≡ false
    → last_of other (change_last f h.connections) ≡ f (primary_connection h)
last-changed h f other standing = elim (last-change f (no_primary_connection h.tuple) other h.connections) [
  | inl none ↦ absurd (both_ways (primary_connection h).closed standing
      (ap (λ (l : List PrimaryConnection). (last_of (no_primary_connection h.tuple) l).closed) none))
  | inr last ↦ last
]

-- The last connection changes, and its stream stays lawful.
lawful-change : (settings : Settings) (h later : PrimaryHistory) (f : PrimaryConnection → PrimaryConnection) → later.settings ≡ h.settings
    → later.connections ≡ change_last f h.connections
    → ((k : ℕ) → slice_get h.connections k ≡ Some (primary_connection h) → IsLawful (most_writes settings) (primary_connection h).stream
    → IsLawful (most_writes settings) (f (primary_connection h)).stream)
    → HasLawfulStreams settings h → HasLawfulStreams settings later
lawful-change settings h later f same connections keeps streams = record {
  setting = same ∙ streams.setting;
  lawful = λ k d at. elim (get-change-back f (no_primary_connection h.tuple) h.connections k d
      (subst (λ (l : List PrimaryConnection). slice_get l k ≡ Some d) connections at)) [
        | inl old ↦ streams.lawful k d old
        | inr changed ↦ subst (λ (x : PrimaryConnection). IsLawful (most_writes settings) x.stream) (sym changed.0)
            (keeps k changed.1 (streams.lawful k (primary_connection h) changed.1))
      ];
}

-- no connection changes
lawful-same : (settings : Settings) (h later : PrimaryHistory) → later.settings ≡ h.settings → later.connections ≡ h.connections → HasLawfulStreams settings h
    → HasLawfulStreams settings later
lawful-same settings h later same connections streams = record {
  setting = same ∙ streams.setting;
  lawful = λ k d at. streams.lawful k d (subst (λ (l : List PrimaryConnection). slice_get l k ≡ Some d) connections at);
}

-- the last epoch's barrier may follow
barrier-follows : (most : ℕ) (items : List StreamItem) → MayFollow most items (BarrierItem (last_epoch items))
barrier-follows most items = record {
  barrier = λ epoch is. let same : last_epoch items ≡ epoch = cc in sym same;
  rising = λ place a b at is. absurd (cc);
  apart = λ place item same at. meets-none item (BarrierItem (last_epoch items)) refl;
  small = λ is. absurd (cc);
}

-- the end of a resync may follow every stream
uuids-follow : (most : ℕ) (items : List StreamItem) (tuple : Tuple) → MayFollow most items (UuidsItem tuple)
uuids-follow most items tuple = record {
  barrier = λ epoch is. absurd (cc);
  rising = λ place a b at is. absurd (cc);
  apart = λ place item same at. meets-none item (UuidsItem tuple) refl;
  small = λ is. absurd (cc);
}

-- behind a barrier the last epoch is open
lawful-parts : (settings : Settings) → TakesWrites settings → (g : PrimaryHistory) → epoch_is_over g ≡ true → HasLawfulStreams settings g
    → IsLawfulBetween settings (appending (BarrierItem (last_epoch (primary_connection g).stream)) g)
lawful-parts settings bound g over streams =
    let c : PrimaryConnection = primary_connection g in
    let f : PrimaryConnection → PrimaryConnection = λ x. record x { stream = x.stream ++ BarrierItem (last_epoch c.stream) ∷ [] } in
    let later : PrimaryHistory = appending (BarrierItem (last_epoch c.stream)) g in
    let standing = open-established c (over-standing g over) in
    let last : primary_connection later ≡ f c = last-changed g f (no_primary_connection g.tuple) standing in
    let empty = barrier-empties c.stream (last_epoch c.stream) in
    record {
      streams = lawful-change settings g later f refl refl
          (λ k at lawful. lawful-append (most_writes settings) c.stream (BarrierItem (last_epoch c.stream)) lawful
          (barrier-follows (most_writes settings) c.stream)) streams;
      on = empty-on later (f c) last (subst TakesWrites (sym streams.setting) bound) empty;
    }

-- the end of a resync leaves the last epoch open
lawful-ends : (settings : Settings) (g : PrimaryHistory) → resync_is_over g ≡ true → IsLawfulBetween settings g → IsLawfulBetween settings (ending_resync g)
lawful-ends settings g over between =
    let c : PrimaryConnection = primary_connection g in
    let item : StreamItem = UuidsItem (sync_end g.tuple) in
    let f : PrimaryConnection → PrimaryConnection = λ x. record x { stream = x.stream ++ UuidsItem (sync_end g.tuple) ∷ [] } in
    let later : PrimaryHistory = ending_resync g in
    let stood = over-established g over in
    let last : primary_connection later ≡ f c = last-changed g f (no_primary_connection later.tuple) (open-established c stood) in
    let going = goes-on g stood between.on in
    let grown = barriers-append c.stream (UuidsItem (sync_end g.tuple) ∷ []) in
    let same : last_epoch (c.stream ++ UuidsItem (sync_end g.tuple) ∷ []) ≡ last_epoch c.stream = omega arith in
    let size : epoch_size (f c).stream (last_epoch (f c).stream) ≡ epoch_size c.stream (last_epoch c.stream)
    = ap (epoch_size (f c).stream) same
    ∙ elim (size-grow c.stream item (last_epoch c.stream)) [ inl kept ↦ kept | inr more ↦ absurd (let no = more.0 in cc) ] in
    record {
      streams = lawful-change settings g later f refl refl
          (λ k at lawful. lawful-append (most_writes settings) c.stream item lawful (uuids-follow (most_writes settings) c.stream (sync_end g.tuple)))
          between.streams;
      on = not-over later (f c) last (record {
        unsettled = unsettled-more g later c (f c) item refl refl going.unsettled (λ number was i a at same. was i a at same) (λ write is. absurd (cc))
            (λ place block contents. refl) refl;
        room = subst (HasRoom g.settings) (sym size) going.room;
      });
    }

lawful-following : (settings : Settings) → TakesWrites settings → (h : PrimaryHistory) → HasLawfulStreams settings h
    → IsLawfulBetween settings (follows h).history
lawful-following settings bound = following-from (HasLawfulStreams settings) (IsLawfulBetween settings) (IsLawfulBetween settings)
    (λ h streams. lawful-same settings h _ refl refl streams)
    (lawful-parts settings bound) (λ g on streams. record { streams = streams; on = on }) (lawful-ends settings) (λ g between. between)

-- Effects.

lawful-submits : (settings : Settings) (h : PrimaryHistory) (first : ℕ) (contents : List (List ℕ)) → MaySubmit h first contents → HasHomes h
    → IsLawfulBetween settings h
    → HasLawfulStreams settings (submitted h first contents)
lawful-submits settings h first contents may homes between = go (is_established (primary_connection h)) refl
  where
    go : (b : Bool) → is_established (primary_connection h) ≡ b → HasLawfulStreams settings (submitted_with b h first contents)
    go true is = lawful-change settings h _ (λ c. record c { stream = c.stream ++ WriteItem (submission h first contents) ∷ [] }) refl refl
        (λ k at lawful. lawful-append (most_writes settings) (primary_connection h).stream (WriteItem (submission h first contents)) lawful
        (subst (λ (s : Settings). MayFollow (most_writes s) (primary_connection h).stream (WriteItem (submission h first contents))) between.streams.setting
        (write-follows h k first contents homes at is between.on may.free))) between.streams
    go false is = lawful-same settings h _ refl refl between.streams

lawful-resyncs : (settings : Settings) (h : PrimaryHistory) (block : ℕ) (read : Option (List ℕ)) → is_established (primary_connection h) ≡ true
    → nat_lt 0 (length (under_way (primary_connection h))) ≡ false
    → free_block h ≡ Some block
    → HasHomes h → IsLawfulBetween settings h
    → HasLawfulStreams settings (copying read block h)
lawful-resyncs settings h block read standing alone free homes between =
    lawful-change settings h _ (λ c. record c { stream = c.stream ++ ResyncItem block (given read h block) ∷ [] }) refl refl
    (λ k at lawful. lawful-append (most_writes settings) (primary_connection h).stream (ResyncItem block (given read h block)) lawful
    (subst (λ (s : Settings). MayFollow (most_writes s) (primary_connection h).stream (ResyncItem block (given read h block)))
    between.streams.setting
    (resync-follows h k block (given read h block) homes at standing between.on alone free))) between.streams

lawful-faults : (settings : Settings) (h : PrimaryHistory) (number : ℕ) (offsets : List ℕ) → HasLawfulStreams settings h
    → HasLawfulStreams settings (faulted number offsets h)
lawful-faults settings h number offsets streams = go (accepted_at h number)
  where
    go : (v : Option Accepted) → HasLawfulStreams settings
        (faulted_by v number offsets h)
    go None = streams
    go (Some accepted) = lawful-same settings h _ refl refl streams

-- a stream that begins is empty, or has the start of a resync
lawful-begins : (settings : Settings) (h : PrimaryHistory) (peer : Tuple) (decided : Decision) → HasLawfulStreams settings h
    → HasLawfulStreams settings (begun_with decided (record (with_primary_connection (with_frame (Ok (UuidsFrame peer))) h) { peer = Some peer }))
lawful-begins settings h peer decided streams = go decided
  where
    taken : PrimaryHistory
    taken = record (with_primary_connection (with_frame (Ok (UuidsFrame peer))) h) { peer = Some peer }

    twice : (later : PrimaryHistory) (g : PrimaryConnection → PrimaryConnection) → later.settings ≡ h.settings
        → later.connections ≡ change_last g (change_last (with_frame (Ok (UuidsFrame peer))) h.connections)
        → (IsLawful (most_writes settings) (primary_connection h).stream
        → IsLawful (most_writes settings) (g (with_frame (Ok (UuidsFrame peer)) (primary_connection h))).stream)
        → HasLawfulStreams settings later
    twice later g same connections keeps =
        lawful-change settings h later (λ c. g (with_frame (Ok (UuidsFrame peer)) c)) same (connections
        ∙ change-twice (with_frame (Ok (UuidsFrame peer))) g h.connections) (λ k at lawful. keeps lawful) streams

    start : (word : ℕ) → IsLawful (most_writes settings) (SyncUuidItem word ∷ [])
    start word = lawful-append (most_writes settings) [] (SyncUuidItem word) (lawful-empty (most_writes settings)) (record {
      barrier = λ epoch is. absurd (cc);
      rising = λ place a b at is. absurd (cc);
      apart = λ place item same at. absurd (cc);
      small = λ is. absurd (cc);
    })

    go : (v : Decision) → HasLawfulStreams settings (begun_with v (record (with_primary_connection (with_frame (Ok (UuidsFrame peer))) h) { peer = Some peer }))
    go NoSync = twice _ (λ c. record c { begun = true }) refl refl (λ lawful. lawful)
    go BitmapSync = twice _ (λ c. record c { begun = true; stream = SyncUuidItem (primary_connection taken).sync ∷ [] }) refl refl
        (λ lawful. start (primary_connection taken).sync)
    go FullSync = twice _ (λ c. record c { begun = true; stream = SyncUuidItem (primary_connection taken).sync ∷ [] }) refl refl
        (λ lawful. start (primary_connection taken).sync)

-- a new connection has an empty stream
lawful-opens : (settings : Settings) (h : PrimaryHistory) (sync loss : ℕ) → HasLawfulStreams settings h → HasLawfulStreams settings (opened h sync loss)
lawful-opens settings h sync loss streams = record {
  setting = streams.setting;
  lawful = λ k c at. elim (get-more h.connections (new_primary_connection sync loss h.tuple) k c at) [
    | inl old ↦ streams.lawful k c old
    | inr new ↦ subst (λ (x : PrimaryConnection). IsLawful (most_writes settings) x.stream) (sym new.1) (lawful-empty (most_writes settings))
  ];
}

-- what holds between steps
abbrev pub Before : Settings → PrimaryHistory → Type 0
Before settings h = HasHomes h × IsLawfulBetween settings h

-- what holds after a step's effect, before what follows from it
abbrev pub After : Settings → PrimaryHistory → Type 0
After settings h = HasHomes h × HasLawfulStreams settings h

pub lawful-kept : (settings : Settings) → TakesWrites settings → IsKeptByMoves (Before settings) (After settings)
lawful-kept settings bound = record {
  following = λ h p. (homes-kept.following h p.0, lawful-following settings bound h p.1);
  opens = λ h sync loss closed fresh p. (homes-kept.opens h sync loss closed fresh p.0, lawful-opens settings h sync loss p.1.streams);
  submits = λ h first contents may p. (homes-kept.submits h first contents may p.0, lawful-submits settings h first contents may p.0 p.1);
  writes = λ h number waiting p. (homes-kept.writes h number waiting p.0, lawful-same settings h _ refl refl p.1.streams);
  faults = λ h number offsets waiting p. (homes-kept.faults h number offsets waiting p.0, lawful-faults settings h number offsets p.1.streams);
  sends = λ h standing due p. (homes-kept.sends h standing due p.0, lawful-change settings h _ pushing refl refl (λ k at lawful. lawful) p.1.streams);
  greets = λ h frame standing new met p. (
    homes-kept.greets h frame standing new met p.0,
    lawful-change settings h _ (with_frame frame) refl refl (λ k at lawful. lawful) p.1.streams,
  );
  begins = λ h peer decided standing new late is fresh p. (
    homes-kept.begins h peer decided standing new late is fresh p.0,
    lawful-begins settings h peer decided p.1.streams,
  );
  receives = λ h ack standing begun may p. (
    homes-kept.receives h ack standing begun may p.0,
    lawful-change settings h _ (with_frame _) refl refl (λ k at lawful. lawful) p.1.streams,
  );
  applies = λ h ack standing begun may p. (
    homes-kept.applies h ack standing begun may p.0,
    lawful-change settings h _ (with_frame _) refl refl (λ k at lawful. lawful) p.1.streams,
  );
  clears = λ h ack standing begun may p. (
    homes-kept.clears h ack standing begun may p.0,
    lawful-change settings h _ (with_frame _) refl refl (λ k at lawful. lawful) p.1.streams,
  );
  confirms = λ h number size standing begun turn p. (
    homes-kept.confirms h number size standing begun turn p.0,
    lawful-change settings h _ (with_frame _) refl refl (λ k at lawful. lawful) p.1.streams,
  );
  refuses = λ h frame peer standing p. (
    homes-kept.refuses h frame peer standing p.0,
    lawful-change settings h _ (refused_out frame) refl
        (refused-last frame peer h) (λ k at lawful. lawful) p.1.streams,
  );
  resyncs = λ h block read may runs alone is p. (
    homes-kept.resyncs h block read may runs alone is p.0,
    lawful-resyncs settings h block read (and_parts (is_established (primary_connection h)) (in_resync (primary_connection h).stream) runs).0 alone is p.0 p.1,
  );
  closes = λ h standing p. (
    homes-kept.closes h standing p.0,
    lawful-change settings h _ (λ c. record c { closed = true }) refl refl (λ k at lawful. lawful) p.1.streams,
  );
  receipts = λ h number p. (homes-kept.receipts h number p.0, record { streams = lawful-same settings h _ refl refl p.1.streams; on = p.1.on });
}

-- no mark matters to it
pub lawful-marks : (settings : Settings) (h : PrimaryHistory) (marks : Marks) → After settings h → After settings (record h { marks = marks })
lawful-marks settings h marks p = (homes-marks h marks p.0, lawful-same settings h _ refl refl p.1)

lawful-released : (settings : Settings) → IsKeptByReleases (Before settings) (After settings)
lawful-released settings = kept-by-releases (Before settings) (After settings) (lawful-marks settings)

pub lawful-opening : (settings : Settings) (disk : BlockMap) (tuple : Tuple) (marks : ℕ → Bool)
    → IsLawfulBetween settings (primary_opening settings disk tuple marks)
lawful-opening settings disk tuple marks = record { streams = record { setting = refl; lawful = λ k c at. absurd (cc) }; on = refl }

-- what holds of a primary after every run from an opening: homes, and lawful streams
pub primary-between : (settings : Settings) (disk : BlockMap) (tuple : Tuple) (marks : ℕ → Bool) (events : List PrimaryEvent) → IsInRange settings
    → HasHomes (primary_run events (primary_opening settings disk tuple marks)) × IsLawfulBetween settings
    (primary_run events (primary_opening settings disk tuple marks))
primary-between settings disk tuple marks events range =
    keeps-run (Before settings) (After settings) (lawful-kept settings (takes-writes settings range)) (lawful-released settings) events
    (primary_opening settings disk tuple marks) (homes-opening settings disk tuple marks, lawful-opening settings disk tuple marks)

-- Whatever frames a primary takes, each of its streams is lawful.
pub primary_lawful : (settings : Settings) (disk : BlockMap) (tuple : Tuple) (marks : ℕ → Bool) (events : List PrimaryEvent) → IsInRange settings
    → (k : ℕ) (c : PrimaryConnection) → slice_get (primary_run events (primary_opening settings disk tuple marks)).connections k ≡ Some c
    → IsLawful (most_writes settings) c.stream
primary_lawful settings disk tuple marks events range k c at = (primary-between settings disk tuple marks events range).1.streams.lawful k c at
