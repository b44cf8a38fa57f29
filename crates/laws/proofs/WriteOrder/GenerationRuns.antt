-- A generation that was left does not come back, in any run of a primary.
use Rattle.std.proofs.Common.{ℕ, ◌≡◌, ◌-◌, ◌<◌, ◌⊎◌, inl, inr, Bool, true, false, List, [], ◌∷◌, ◌++◌, Option, Some, None, Ok}
use Rattle.std.proofs.Common.{refl, ◌∙◌, ap}
use Rattle.std.specs.Prelude.{is_some, unwrap_or, if◌then◌else◌}
use Rattle.std.proofs.lemmas.Bool.{both_ways}
use Rattle.blocks.specs.declared.settings.Settings.{Settings}
use Rattle.blocks.specs.declared.tuple.Tuple.{Tuple}
use Rattle.blocks.specs.declared.outcome.Decision.{Decision}
use Rattle.blocks.specs.declared.outcome.Decision.TheVariants.{NoSync, BitmapSync, FullSync}
use Rattle.blocks.specs.SettingsRange.{IsInRange}
use Rattle.model.specs.Contents.{BlockMap}
use Rattle.model.specs.Stream.{WriteItem, ResyncItem, SyncUuidItem, UuidsItem}
use Rattle.model.specs.Frames.{Received, UuidsFrame, RsWriteAckFrame, BarrierAckFrame}
use Rattle.model.specs.Identifiers.{stands_in, decision, lost}
use Rattle.model.specs.Primary.{OnDisk, Accepted, PrimaryConnection, PrimaryHistory, no_primary_connection, primary_connection, last_of, change_last}
use Rattle.model.specs.Primary.{with_primary_connection}
use Rattle.model.specs.Primary.{is_established, local_map, primary_opening}
use Rattle.model.specs.PrimarySteps.{submission, submitted, with_outcome, accepted_at, faulted, closing, receipted, submitted_with, given}
use Rattle.model.specs.PrimarySteps.{faulted_by}
use Rattle.model.specs.Acknowledgements.{begun_with}
use Rattle.model.specs.LocalRuns.{PrimaryEvent, primary_run}
use Rattle.laws.proofs.Rules.EpochEnds.{TakesWrites, takes-writes}
use Rattle.laws.proofs.Lists.Beginnings.{begins-self}
use Rattle.laws.proofs.Lists.Last.{change-twice}
use Rattle.laws.proofs.Primary.Homes.{HasHomes}
use Rattle.laws.proofs.Primary.FirstStreams.{no-item}
use Rattle.laws.proofs.Primary.Moves.{IsKeptByMoves, IsKeptByReleases, keeps-run, with_frame, pushing}
use Rattle.laws.proofs.Accounted.{IsAccounted}
use Rattle.laws.proofs.WriteOrder.SpanRuns.{start-end, Spanned, SpannedAfter, spans-kept, spans-released, spans-run}
use Rattle.laws.proofs.WriteOrder.Generations.{primary-connection-change, start-current}
use Rattle.laws.proofs.WriteOrder.GenerationMoves.{HasLeft, left-still, left-with, left-appends, left-following, left-closes, left-opens}
use Rattle.laws.proofs.WriteOrder.GenerationBegins.{left-beginning}
use Rattle.laws.proofs.Rules.RefusedFrames.{refusing_frame, refused_out, refused_by, refusing-last}

left-submits : (h : PrimaryHistory) (first : ℕ) (contents : List (List ℕ)) → HasLeft h → HasLeft (submitted h first contents)
left-submits h first contents t = go (is_established (primary_connection h))
  where
    go : (b : Bool) → HasLeft (submitted_with b h first contents)
    go true = left-appends h _ (WriteItem (submission h first contents)) refl refl refl (λ tuple is. cc) t
    go false = left-still h _ refl refl refl t

left-faults : (h : PrimaryHistory) (number : ℕ) (offsets : List ℕ) → HasLeft h → HasLeft (faulted number offsets h)
left-faults h number offsets t = go (accepted_at h number)
  where
    go : (v : Option Accepted) → HasLeft
        (faulted_by v number offsets h)
    go None = t
    go (Some accepted) = left-still h _ refl refl refl t

left-begins : (h : PrimaryHistory) (peer : Tuple) (decided : Decision) → HasHomes h → IsAccounted h → (primary_connection h).closed ≡ false
    → (primary_connection h).begun ≡ false
    → decision h.tuple peer ≡ Ok decided → stands_in (primary_connection h).loss peer ≡ false → HasLeft h
    → HasLeft (begun_with decided (record (with_primary_connection (with_frame (Ok (UuidsFrame peer))) h) { peer = Some peer }))
left-begins h peer decided homes accounted standing fresh is unused t = go decided is
  where
    frame : Received
    frame = Ok (UuidsFrame peer)

    taken : PrimaryHistory
    taken = record (with_primary_connection (with_frame (Ok (UuidsFrame peer))) h) { peer = Some peer }

    go : (v : Decision) → decision h.tuple peer ≡ Ok v
        → HasLeft (begun_with v (record (with_primary_connection (with_frame (Ok (UuidsFrame peer))) h) { peer = Some peer }))
    go NoSync is = left-beginning h (begun_with NoSync taken) peer NoSync (λ c. record c { taken = c.taken ++ Ok (UuidsFrame peer) ∷ []; begun = true })
        accounted standing fresh is unused (record {
          connections = change-twice (with_frame frame) (λ c. record c { begun = true }) h.connections;
          opening = refl;
          current = refl;
          closed = refl;
          begun = refl;
          loss = refl;
          hello = refl;
          taken = refl;
          no_end = λ n tuple at. no-item h homes standing fresh n (UuidsItem tuple) at;
          how = inl (refl, refl);
        }) t
    go BitmapSync is =
        let word = (primary_connection (with_primary_connection (with_frame (Ok (UuidsFrame peer))) h)).sync in
        left-beginning h (begun_with BitmapSync taken) peer BitmapSync
        (λ c. record c { taken = c.taken ++ Ok (UuidsFrame peer) ∷ []; begun = true; stream = SyncUuidItem word ∷ [] }) accounted standing fresh is unused
        (record {
          connections = change-twice (with_frame frame) (λ c. record c { begun = true; stream = SyncUuidItem word ∷ [] }) h.connections;
          opening = refl;
          current = start-current word h.tuple;
          closed = refl;
          begun = refl;
          loss = refl;
          hello = refl;
          taken = refl;
          no_end = start-end word;
          how = inr (λ same. cc, (word, refl));
        }) t
    go FullSync is =
        let word = (primary_connection (with_primary_connection (with_frame (Ok (UuidsFrame peer))) h)).sync in
        left-beginning h (begun_with FullSync taken) peer FullSync
        (λ c. record c { taken = c.taken ++ Ok (UuidsFrame peer) ∷ []; begun = true; stream = SyncUuidItem word ∷ [] }) accounted standing fresh is unused
        (record {
          connections = change-twice (with_frame frame) (λ c. record c { begun = true; stream = SyncUuidItem word ∷ [] }) h.connections;
          opening = refl;
          current = start-current word h.tuple;
          closed = refl;
          begun = refl;
          loss = refl;
          hello = refl;
          taken = refl;
          no_end = start-end word;
          how = inr (λ same. cc, (word, refl));
        }) t

-- the tuple after a close
closed-tuple : (h : PrimaryHistory) (tuple : Tuple) → tuple ≡ (if (primary_connection h).begun then lost (primary_connection h).loss h.tuple else h.tuple)
    → (((primary_connection h).begun ≡ true) × (tuple ≡ lost (primary_connection h).loss h.tuple))
    ⊎ (((primary_connection h).begun ≡ false) × (tuple ≡ h.tuple))
closed-tuple h tuple is = go (primary_connection h).begun refl is
  where
    go : (b : Bool) → (primary_connection h).begun ≡ b → tuple ≡ (if b then lost (primary_connection h).loss h.tuple else h.tuple)
        → (((primary_connection h).begun ≡ true) × (tuple ≡ lost (primary_connection h).loss h.tuple))
        ⊎ (((primary_connection h).begun ≡ false) × (tuple ≡ h.tuple))
    go true begun is = inl (begun, is)
    go false begun is = inr (begun, is)

left-refuses : (h : PrimaryHistory) (frame : Received) (peer : Option Tuple) → (primary_connection h).closed ≡ false → HasLeft h
    → HasLeft (closing (refused_by frame peer h))
left-refuses h frame peer standing t =
    let mid : PrimaryHistory = refused_by frame peer h in
    let later : PrimaryHistory = closing mid in
    let f : PrimaryConnection → PrimaryConnection = refused_out frame in
    let twice : mid.connections ≡ change_last (refusing_frame frame) h.connections = refusing-last frame h.connections in
    let end : primary_connection mid ≡ refusing_frame frame (primary_connection h) = elim (primary-connection-change h mid (refusing_frame frame) twice) [
      | inl none ↦ absurd (both_ways (primary_connection h).closed standing
          (ap (λ (l : List PrimaryConnection). (last_of (no_primary_connection h.tuple) l).closed) none))
      | inr is ↦ is
    ] in
    let tuple : later.tuple ≡ (if (primary_connection h).begun then lost (primary_connection h).loss h.tuple else h.tuple) =
    ap (λ (c : PrimaryConnection). if c.begun then lost c.loss h.tuple
    else h.tuple) end in
    left-closes h later f standing (ap (change_last (λ (c : PrimaryConnection). record c { closed = true })) twice
    ∙ change-twice (refusing_frame frame) (λ c. record c { closed = true }) h.connections) refl (closed-tuple h later.tuple tuple) refl refl
    refl refl refl (frame ∷ [], refl) t

-- Every move keeps it, beside the spans.
left-kept : (settings : Settings) → TakesWrites settings → IsKeptByMoves (λ h. Spanned settings h × HasLeft h) (λ h. SpannedAfter settings h × HasLeft h)
left-kept settings bound =
    let base = spans-kept settings bound in
    let takes : (h : PrimaryHistory) (frame : Received) → HasLeft h
    → HasLeft (with_primary_connection (with_frame frame) h) = λ h frame t. left-with h (with_primary_connection (with_frame frame) h)
    (with_frame frame) refl refl refl refl refl
    refl refl (begins-self (primary_connection h).stream) (frame ∷ [], refl) (λ n tuple there. there) t in
    record {
      following = λ h p. (base.following h p.0, left-following h p.1);
      opens = λ h sync loss closed fresh p. (base.opens h sync loss closed fresh p.0, left-opens h sync loss closed fresh p.1);
      submits = λ h first contents may p. (base.submits h first contents may p.0, left-submits h first contents p.1);
      writes = λ h number waiting p. (base.writes h number waiting p.0, left-still h (with_outcome number OnDisk h) refl refl refl p.1);
      faults = λ h number offsets waiting p. (base.faults h number offsets waiting p.0, left-faults h number offsets p.1);
      sends = λ h standing due p. (
        base.sends h standing due p.0,
        left-with h (with_primary_connection pushing h) pushing refl refl refl refl refl refl refl (begins-self (primary_connection h).stream)
            (begins-self (primary_connection h).taken)
            (λ n tuple there. there) p.1,
      );
      greets = λ h frame standing new met p. (base.greets h frame standing new met p.0, takes h frame p.1);
      begins = λ h peer decided standing new late is fresh p. (
        base.begins h peer decided standing new late is fresh p.0,
        left-begins h peer decided p.0.0.0.1.1.0.0 p.0.0.1 standing new is fresh p.1,
      );
      receives = λ h ack standing begun may p. (base.receives h ack standing begun may p.0, takes h _ p.1);
      applies = λ h ack standing begun may p. (base.applies h ack standing begun may p.0, takes h _ p.1);
      clears = λ h ack standing begun may p. (
        base.clears h ack standing begun may p.0,
        left-still (with_primary_connection (with_frame (Ok (RsWriteAckFrame ack))) h) _ refl refl refl (takes h (Ok (RsWriteAckFrame ack)) p.1),
      );
      confirms = λ h number size standing begun turn p. (base.confirms h number size standing begun turn p.0, takes h _ p.1);
      refuses = λ h frame peer standing p. (base.refuses h frame peer standing p.0, left-refuses h frame peer standing p.1);
      resyncs = λ h block read may runs alone is p. (
        base.resyncs h block read may runs alone is p.0,
        left-appends h _ (ResyncItem block (given read h block)) refl refl refl (λ tuple same. cc) p.1,
      );
      closes = λ h standing p. (
        base.closes h standing p.0,
        left-closes h (closing h) (λ c. record c { closed = true }) standing refl refl (closed-tuple h (closing h).tuple refl) refl refl refl refl refl
            (begins-self (primary_connection h).taken) p.1,
      );
      receipts = λ h number p. (base.receipts h number p.0, left-still h (receipted number h) refl refl refl p.1);
    }

left-released : (settings : Settings) → IsKeptByReleases (λ h. Spanned settings h × HasLeft h) (λ h. SpannedAfter settings h × HasLeft h)
left-released settings =
    let base = spans-released settings in
    record {
      writes = λ h number waiting p q. (base.writes h number waiting p.0 q.0, left-still (with_outcome number OnDisk h) _ refl refl refl q.1);
      confirms = λ h number size standing begun turn p q. (
        base.confirms h number size standing begun turn p.0 q.0,
        left-still (with_primary_connection (with_frame (Ok (BarrierAckFrame number size))) h) _ refl refl refl q.1,
      );
    }

-- In every run of a primary.
pub left-run : (settings : Settings) (disk : BlockMap) (tuple : Tuple) (marks : ℕ → Bool) (events : List PrimaryEvent) → IsInRange settings
    → ((block : ℕ) → block < settings.blocks → is_some (disk block) ≡ true)
    → Spanned settings (primary_run events (primary_opening settings disk tuple marks))
    × HasLeft (primary_run events (primary_opening settings disk tuple marks))
left-run settings disk tuple marks events range sized =
    keeps-run (λ h. Spanned settings h × HasLeft h) (λ h. SpannedAfter settings h × HasLeft h) (left-kept settings (takes-writes settings range))
    (left-released settings) events (primary_opening settings disk tuple marks) (
      spans-run settings disk tuple marks [] range sized,
      record {
        own = λ unshut. absurd (cc);
        fresh = λ k c at. absurd (cc);
        met = λ k c at. absurd (cc);
        ended = λ i n c t at. absurd (cc);
        first = λ word some premise only. inl (λ k c at. absurd (cc));
      },
    )
