-- Every run of a primary keeps the spans of its connections.
use Rattle.std.proofs.Common.{ℕ, zero, suc, ◌≡◌, ◌-◌, ◌<◌, ◌≤◌, inl, inr, Bool, true, false, not, nat_lt, List, [], ◌∷◌, ◌++◌, length, Some}
use Rattle.std.proofs.Common.{slice_get, Ok, refl, sym, ◌∙◌, ap, subst, arith}
use Rattle.std.specs.Prelude.{is_some}
use Rattle.std.specs.List.{list_any}
use Rattle.std.proofs.lemmas.Bool.{cases_lt, both_ways, and_right, or_parts, lt-ltb, false_from_ne_true}
use Rattle.std.proofs.lemmas.Option.{slice_get_within}
use Rattle.blocks.specs.declared.settings.Settings.{Settings}
use Rattle.blocks.specs.declared.tuple.Tuple.{Tuple}
use Rattle.blocks.specs.declared.outcome.Decision.{Decision}
use Rattle.blocks.specs.declared.outcome.Decision.TheVariants.{NoSync, BitmapSync, FullSync}
use Rattle.blocks.specs.SettingsRange.{IsInRange}
use Rattle.model.specs.Contents.{BlockMap, covers}
use Rattle.model.specs.Stream.{StreamItem, WriteItem, ResyncItem, SyncUuidItem, UuidsItem}
use Rattle.model.specs.Frames.{Received, UuidsFrame, BarrierAckFrame}
use Rattle.model.specs.Identifiers.{decision}
use Rattle.model.specs.Primary.{OnDisk, Accepted, PrimaryConnection, PrimaryHistory, no_primary_connection, primary_connection, change_last}
use Rattle.model.specs.Primary.{with_primary_connection, is_established, local_map}
use Rattle.model.specs.Primary.{accepted_frames, primary_opening, unreleased, is_released}
use Rattle.model.specs.PrimarySteps.{with_outcome, receipted}
use Rattle.model.specs.Acknowledgements.{begun_with}
use Rattle.model.specs.LocalRuns.{PrimaryEvent, primary_run}
use Rattle.model.specs.Headline.{is_marked, is_covered}
use Rattle.laws.proofs.Rules.EpochEnds.{TakesWrites, takes-writes}
use Rattle.laws.specs.Reflections.{FirstBegan, NoneBegan}
use Rattle.laws.proofs.Lists.Beginnings.{begins-self}
use Rattle.laws.proofs.Lists.Elements.{same-at}
use Rattle.laws.proofs.Lists.Last.{change-twice, get-last-changed}
use Rattle.laws.proofs.Primary.Homes.{HasHomes, open-at}
use Rattle.laws.proofs.Primary.FirstStreams.{no-item, first-now, first-stays}
use Rattle.laws.proofs.Primary.Moves.{IsKeptByMoves, IsKeptByReleases, both-kept, keeps-run, with_frame, pushing}
use Rattle.laws.proofs.Primary.LastOpen.{IsLastOpen}
use Rattle.laws.proofs.Releases.Cleared.{done-releases, confirmed-releases}
use Rattle.laws.proofs.Releases.InOrderMoves.{Ordered, OrderedAfter, in-order-kept}
use Rattle.laws.proofs.Releases.Runs.{ordered-opening}
use Rattle.laws.proofs.Accounted.{IsAccounted, held-covers}
use Rattle.laws.proofs.Accounted.Kept.{accounted-kept, accounted-opening}
use Rattle.laws.proofs.Accounted.Reflected.{reflected, rest-marked}
use Rattle.laws.proofs.Accounted.Released.{Both, BothAfter, both-released}
use Rattle.laws.proofs.WriteOrder.Spans.{NoneFailed, left_by, WasBelow, IsSpan, Passes, below-passes, opening-below}
use Rattle.laws.proofs.WriteOrder.SpanMoves.{HasSpans, SameOpening, KeepsFirst, passes-change, last-end, spans-with, keeps-quiet}
use Rattle.laws.proofs.WriteOrder.SpanKept.{grows-with, spans-still, spans-end, spans-takes, spans-following}
use Rattle.laws.proofs.WriteOrder.SpanSteps.{spans-done, spans-faults, spans-releasing}
use Rattle.laws.proofs.WriteOrder.SpanBegins.{spans-clears, spans-closes, spans-refuses, spans-opens, local-full, spans-resyncs}
use Rattle.laws.proofs.WriteOrder.SpanSubmits.{spans-submits}
use Rattle.laws.proofs.Rules.Releases.{held-waiting}

-- What the begin of a stream does to its connection, its stream and the marks.
record BeginsStream (h later : PrimaryHistory) (peer : Tuple) (decided : Decision) (f : PrimaryConnection → PrimaryConnection) : Type 0 where
  connections : later.connections ≡ change_last f h.connections
  writes : later.writes ≡ h.writes
  opening : SameOpening h later
  begun : (f (primary_connection h)).begun ≡ true
  taken : (f (primary_connection h)).taken ≡ (primary_connection h).taken ++ Ok (UuidsFrame peer) ∷ []
  no_block : (n block : ℕ) (contents : List ℕ) → slice_get (f (primary_connection h)).stream n ≡ Some (ResyncItem block contents) → ⊥
  no_end : (n : ℕ) (tuple : Tuple) → slice_get (f (primary_connection h)).stream n ≡ Some (UuidsItem tuple) → ⊥
  marks : (block : ℕ) → block < h.settings.blocks → later.marks block ≡ false → h.marks block ≡ false
  full : decided ≡ FullSync → (block : ℕ) → block < h.settings.blocks → later.marks block ≡ false → ⊥

module _ (h later : PrimaryHistory) (peer : Tuple) (decided : Decision) (f : PrimaryConnection → PrimaryConnection) (homes : HasHomes h) (last : IsLastOpen h)
    (accounted : IsAccounted h)
    (standing : (primary_connection h).closed ≡ false) (fresh : (primary_connection h).begun ≡ false) (is : decision h.tuple peer ≡ Ok decided)
    (b : BeginsStream h later peer decided f) where
  -- a stream that began before stays the first one
  begins-first : KeepsFirst h later
  begins-first = first-stays h later peer f fresh b.connections b.opening.1.0

  -- or it is this one
  begins-now : NoneBegan h → FirstBegan later decided
  begins-now = first-now h later peer f fresh b.connections b.opening.1.0 decided standing b.begun b.taken is

  begins-passes : Passes h later
  begins-passes = passes-change h later f b.connections b.writes b.opening begins-first

  -- no stream stands before it
  resting : is_established (primary_connection h) ≡ false
  resting = and_right (not (primary_connection h).closed) (primary_connection h).begun fresh

  empty : (k : ℕ) → slice_get h.connections k ≡ Some (primary_connection h) → (primary_connection h).stream ≡ []
  empty k at = homes.empty k (primary_connection h) at fresh

  -- a block that is not marked is not under an unreleased write
  uncovered : (block : ℕ) → h.marks block ≡ false → is_covered h block ≡ false
  uncovered block unmarked = false_from_ne_true (is_covered h block)
      (λ covered. both_ways (is_marked h block) (and_right (nat_lt block h.settings.blocks) (h.marks block) unmarked)
      (rest-marked h block accounted last resting covered))

  -- so the local disk has there what all writes leave
  holds : NoneFailed h → (block : ℕ) → h.marks block ≡ false → local_map h block ≡ left_by h (length h.writes) block
  holds fine block unmarked = local-full h block fine (λ i a at waits. false_from_ne_true (covers a.write block) (λ covered.
      let held : is_released h a ≡ false = held-waiting h a waits in
      both_ways (list_any (λ (x : Accepted). covers x.write block) (unreleased h)) (or_parts (is_marked h block) _ (uncovered block unmarked)).1
      (held-covers h block i a at held covered)))

  begins-below : NoneFailed later → (k block : ℕ) → slice_get h.connections k ≡ Some (primary_connection h) → length h.connections ≤ suc k
      → block < h.settings.blocks
      → later.marks block ≡ false → WasBelow later k (length h.writes) block
  begins-below fine k block at late inside unmarked =
      let clean = b.marks block inside unmarked in
      let same = holds (begins-passes.fine fine) block clean in
      let within = slice_get_within h.connections k (primary_connection h) at in
      let none = empty k at in
      elim (reflected h block accounted (begins-passes.fine fine).1 (uncovered block clean)) [
        | inl from ↦ below-passes h later k (length h.writes) block begins-passes within (omega arith) (inl (record {
          connection = from.connection;
          place = from.place;
          end = from.end;
          item = from.item;
          less = elim (cases_lt from.connection k) [
            | inl early ↦ early
            | inr not_early ↦ absurd (
                let inside_list = slice_get_within h.connections from.connection from.end from.at in
                let index : from.connection ≡ k = omega arith in
                let end : from.end ≡ primary_connection h = same-at h.connections k from.end (primary_connection h)
                (subst (λ (n : ℕ). slice_get h.connections n ≡ Some from.end) index from.at) at in
                let there : slice_get [] from.place ≡ Some from.item = subst (λ (l : List StreamItem). slice_get l from.place ≡ Some from.item) none
                (subst (λ (c : PrimaryConnection). slice_get c.stream from.place ≡ Some from.item) end from.there) in
                cc (there))
          ];
          at = from.at;
          there = from.there;
          touched = from.touched;
          sure = from.sure;
          content = from.content ∙ same;
          later = λ other next c i less at_too there touched after. from.later other next c i at_too there touched after ∙ same;
        }))
        | inr from ↦ inr (opening-below h later k (length h.writes) block begins-passes within (omega arith) (from.content ∙ same) from.unmarked
            (λ other next c i less at_too there touched. from.items other next c i at_too there touched ∙ same)
            (elim from.began [
              | inl nothing ↦ (decided, begins-now nothing, λ full. b.full full block inside unmarked)
              | inr first ↦ (first.0, begins-first first.0 first.1, λ full. first.2 inside full)
            ]))
      ]

  begins-span : (k : ℕ) → slice_get h.connections k ≡ Some (primary_connection h) → length h.connections ≤ suc k → HasSpans h
      → IsSpan later k (f (primary_connection h)) (length h.writes) (length h.writes)
  begins-span k at late t =
      let size : length later.writes ≡ length h.writes = ap length b.writes in
      record {
        rising = omega arith;
        bound = omega arith;
        still = λ unshut. omega arith;
        low = λ n place a less there home.
            let old = subst (λ (l : List Accepted). slice_get l n ≡ Some a) b.writes there in
            let was = homes.housed n k place a old home in
            let end : was.0 ≡ primary_connection h = same-at h.connections k was.0 (primary_connection h) was.1 at in
            let item : slice_get [] place ≡ Some (WriteItem a.write) = subst (λ (l : List StreamItem). slice_get l place ≡ Some (WriteItem a.write))
            (empty k at)
            (subst (λ (c : PrimaryConnection). slice_get c.stream place ≡ Some (WriteItem a.write)) end was.2) in
            cc (item);
        own = λ n a from less there. absurd (omega arith);
        past = λ n place a from there home. let within = slice_get_within later.writes n a there in omega arith;
        reads = λ fine place block contents there. absurd (b.no_block place block contents there);
        first = λ none bitmap. t.quiet (λ j c there. elim (cases_lt j k) [
          | inl early ↦ none j c early (begins-passes.front j c (let within = slice_get_within h.connections k (primary_connection h) at in omega arith) there)
          | inr not_early ↦
              let inside = slice_get_within h.connections j c there in
              let within = slice_get_within h.connections k (primary_connection h) at in
              let index : j ≡ k = omega arith in
              ap (λ (x : PrimaryConnection). x.begun)
              (same-at h.connections k c (primary_connection h) (subst (λ (n : ℕ). slice_get h.connections n ≡ Some c) index there) at)
              ∙ fresh
        ]) (sym (ap (λ (x : Tuple). x.bitmap) b.opening.1.0) ∙ bitmap);
        clean = λ fine unshut block inside unmarked. inr
            (begins-below fine k block at late (subst (λ (x : Settings). block < x.blocks) b.opening.1.1.1.0 inside) unmarked);
        synced = λ fine n tuple there. absurd (b.no_end n tuple there);
      }

  begins-spans : HasSpans h → HasSpans later
  begins-spans t = record {
    spans = spans-with h later last begins-passes (λ n k other a from there early home. let within = slice_get_within later.writes n a there in let size =
        ap length b.writes in omega arith) (λ k d at begun late.
        let end = last-end h later f b.connections k d at late in (
          length h.writes,
          length h.writes,
          subst (λ (x : PrimaryConnection). IsSpan later k x (length h.writes) (length h.writes)) (sym end.1) (begins-span k end.0 late t),
        )) t;
    quiet = λ none bitmap. absurd (
        let there = open-at h standing in
        let changed = get-last-changed f (no_primary_connection h.tuple) h.connections (primary_connection h) there refl in
        both_ways (f (primary_connection h)).begun
        (none (length h.connections - 1) (f (primary_connection h))
        (subst (λ (l : List PrimaryConnection). slice_get l (length h.connections - 1) ≡ Some (f (primary_connection h))) (sym b.connections) changed))
        b.begun);
  }

-- what a stream begins with is no block of a resync, and no end of one
start-block : (word n block : ℕ) (contents : List ℕ) → slice_get (SyncUuidItem word ∷ []) n ≡ Some (ResyncItem block contents) → ⊥
start-block word zero block contents at = cc
start-block word (suc n) block contents at = cc

pub start-end : (word n : ℕ) (tuple : Tuple) → slice_get (SyncUuidItem word ∷ []) n ≡ Some (UuidsItem tuple) → ⊥
start-end word zero tuple at = cc
start-end word (suc n) tuple at = cc

spans-begins : (h : PrimaryHistory) (peer : Tuple) (decided : Decision) → HasHomes h → IsLastOpen h → IsAccounted h → (primary_connection h).closed ≡ false
    → (primary_connection h).begun ≡ false → decision h.tuple peer ≡ Ok decided → HasSpans h
    → HasSpans (begun_with decided (record (with_primary_connection (with_frame (Ok (UuidsFrame peer))) h) { peer = Some peer }))
spans-begins h peer decided homes last accounted standing fresh is t = go decided is
  where
    frame : Received
    frame = Ok (UuidsFrame peer)

    taken : PrimaryHistory
    taken = record (with_primary_connection (with_frame (Ok (UuidsFrame peer))) h) { peer = Some peer }

    go : (v : Decision) → decision h.tuple peer ≡ Ok v
        → HasSpans (begun_with v (record (with_primary_connection (with_frame (Ok (UuidsFrame peer))) h) { peer = Some peer }))
    go NoSync is = begins-spans h (begun_with NoSync taken) peer NoSync (λ c. record c { taken = c.taken ++ Ok (UuidsFrame peer) ∷ []; begun = true }) homes
        last accounted standing fresh is (record {
          connections = change-twice (with_frame frame) (λ c. record c { begun = true }) h.connections;
          writes = refl;
          opening = (refl, (refl, (refl, (refl, λ faithful. faithful))));
          begun = refl;
          taken = refl;
          no_block = λ n block contents at. no-item h homes standing fresh n (ResyncItem block contents) at;
          no_end = λ n tuple at. no-item h homes standing fresh n (UuidsItem tuple) at;
          marks = λ block inside unmarked. unmarked;
          full = λ same. absurd (cc);
        }) t
    go BitmapSync is =
        let word = (primary_connection (with_primary_connection (with_frame (Ok (UuidsFrame peer))) h)).sync in
        begins-spans h (begun_with BitmapSync taken) peer BitmapSync
        (λ c. record c { taken = c.taken ++ Ok (UuidsFrame peer) ∷ []; begun = true; stream = SyncUuidItem word ∷ [] }) homes last accounted standing fresh
        is (record {
          connections = change-twice (with_frame frame) (λ c. record c { begun = true; stream = SyncUuidItem word ∷ [] }) h.connections;
          writes = refl;
          opening = (refl, (refl, (refl, (refl, λ faithful. faithful))));
          begun = refl;
          taken = refl;
          no_block = start-block word;
          no_end = start-end word;
          marks = λ block inside unmarked. unmarked;
          full = λ same. absurd (cc);
        }) t
    go FullSync is =
        let word = (primary_connection (with_primary_connection (with_frame (Ok (UuidsFrame peer))) h)).sync in
        let all : (block : ℕ) → block < h.settings.blocks → nat_lt block h.settings.blocks ≡ false
        → ⊥ = λ block inside out. both_ways (nat_lt block h.settings.blocks) out (lt-ltb block h.settings.blocks inside) in
        begins-spans h (begun_with FullSync taken) peer FullSync
        (λ c. record c { taken = c.taken ++ Ok (UuidsFrame peer) ∷ []; begun = true; stream = SyncUuidItem word ∷ [] }) homes last accounted standing fresh
        is (record {
          connections = change-twice (with_frame frame) (λ c. record c { begun = true; stream = SyncUuidItem word ∷ [] }) h.connections;
          writes = refl;
          opening = (refl, (refl, (refl, (refl, λ faithful. faithful))));
          begun = refl;
          taken = refl;
          no_block = start-block word;
          no_end = start-end word;
          marks = λ block inside unmarked. absurd (all block inside unmarked);
          full = λ same block inside unmarked. all block inside unmarked;
        }) t

-- Every move keeps the spans, beside the order and the account.
abbrev pub Spanned : Settings → PrimaryHistory → Type 0
Spanned settings h = Both settings h × HasSpans h

-- the same after a step's effect
abbrev pub SpannedAfter : Settings → PrimaryHistory → Type 0
SpannedAfter settings h = BothAfter settings h × HasSpans h

-- every move does
pub spans-kept : (settings : Settings) → TakesWrites settings → IsKeptByMoves (Spanned settings) (SpannedAfter settings)
spans-kept settings bound =
    let base : IsKeptByMoves (Both settings) (BothAfter settings) = both-kept (Ordered settings) (OrderedAfter settings) IsAccounted IsAccounted
    (in-order-kept settings bound) accounted-kept in
    let takes : (h : PrimaryHistory) (frame : Received) → (primary_connection h).closed ≡ false → Spanned settings h
    → HasSpans (with_primary_connection (with_frame frame) h) = λ h frame standing p.
    spans-takes h (with_primary_connection (with_frame frame) h) frame p.0.0.1.1.0.0 p.0.0.1.0 standing refl refl (
      refl,
      (refl, (refl, (refl, λ faithful. faithful))),
    ) (λ block unmarked. inl unmarked) p.1 in
    record {
      following = λ h p. (base.following h p.0, (spans-following h (p.0.0.1.0, p.1)).1);
      opens = λ h sync loss closed fresh p. (base.opens h sync loss closed fresh p.0, spans-opens h sync loss p.0.0.1.0 closed p.1);
      submits = λ h first contents may p. (base.submits h first contents may p.0, spans-submits h first contents may p.0.0.1.1.0.0 p.0.0.1.0 p.0.1 p.1);
      writes = λ h number waiting p. (base.writes h number waiting p.0, spans-done h number p.0.0.1.1.0.0 p.0.0.1.0 waiting p.1);
      faults = λ h number offsets waiting p. (base.faults h number offsets waiting p.0, spans-faults h number offsets p.0.0.1.0 p.1);
      sends = λ h standing due p. (
        base.sends h standing due p.0,
        spans-end h (with_primary_connection pushing h) pushing p.0.0.1.0 refl refl (refl, (refl, (refl, (refl, λ faithful. faithful)))) refl (begins-self (primary_connection h).taken)
            (keeps-quiet h (with_primary_connection pushing h) (pushing (primary_connection h)) refl
            (λ k at. grows-with (primary_connection h) (pushing (primary_connection h)) refl (omega arith)
            (begins-self (accepted_frames (primary_connection h)))) (λ u. u) refl
            (λ unshut block unmarked. unmarked)) p.1,
      );
      greets = λ h frame standing new met p. (base.greets h frame standing new met p.0, takes h frame standing p);
      begins = λ h peer decided standing new late is fresh p. (
        base.begins h peer decided standing new late is fresh p.0,
        spans-begins h peer decided p.0.0.1.1.0.0 p.0.0.1.0 p.0.1 standing new is p.1,
      );
      receives = λ h ack standing begun may p. (base.receives h ack standing begun may p.0, takes h _ standing p);
      applies = λ h ack standing begun may p. (base.applies h ack standing begun may p.0, takes h _ standing p);
      clears = λ h ack standing begun may p. (base.clears h ack standing begun may p.0, spans-clears h ack p.0.0.1.1.0.0 p.0.0.1.0 standing begun may p.1);
      confirms = λ h number size standing begun turn p. (base.confirms h number size standing begun turn p.0, takes h _ standing p);
      refuses = λ h frame peer standing p. (base.refuses h frame peer standing p.0, spans-refuses h frame peer p.0.0.1.1.0.0 p.0.0.1.0 standing p.1);
      resyncs = λ h block read may runs alone is p. (
        base.resyncs h block read may runs alone is p.0,
        spans-resyncs h block read p.0.0.0 p.0.0.1.1.0.0 p.0.0.1.0 p.0.0.1.1.0.1.on runs is p.1,
      );
      closes = λ h standing p. (base.closes h standing p.0, spans-closes h p.0.0.1.0 p.1);
      receipts = λ h number p. (
        base.receipts h number p.0,
        spans-still h (receipted number h) p.0.0.1.0 refl refl (refl, (refl, (refl, (refl, λ faithful. faithful)))) (λ block unmarked. unmarked) p.1,
      );
    }

-- and every release
pub spans-released : (settings : Settings) → IsKeptByReleases (Spanned settings) (SpannedAfter settings)
spans-released settings =
    let base = both-released settings in
    record {
      writes = λ h number waiting p q. (
        base.writes h number waiting p.0 q.0,
        spans-releasing settings h (with_outcome number OnDisk h) (done-releases h number p.0.0.1.1.0.0) p.0.0 q.0.0 q.1,
      );
      confirms = λ h number size standing begun turn p q. (
        base.confirms h number size standing begun turn p.0 q.0,
        spans-releasing settings h (with_primary_connection (with_frame (Ok (BarrierAckFrame number size))) h)
            (confirmed-releases settings h number size standing p.0.0)
            p.0.0 q.0.0 q.1,
      );
    }

-- In every run of a primary each connection whose stream began has its span.
pub spans-run : (settings : Settings) (disk : BlockMap) (tuple : Tuple) (marks : ℕ → Bool) (events : List PrimaryEvent) → IsInRange settings
    → ((block : ℕ) → block < settings.blocks → is_some (disk block) ≡ true)
    → Spanned settings (primary_run events (primary_opening settings disk tuple marks))
spans-run settings disk tuple marks events range sized =
    let opening = ordered-opening settings disk tuple marks sized in
    keeps-run (Spanned settings) (SpannedAfter settings) (spans-kept settings (takes-writes settings range)) (spans-released settings) events
    (primary_opening settings disk tuple marks)
    ((opening, accounted-opening settings disk tuple marks opening.0), record { spans = λ k c at. absurd (cc); quiet = λ none bitmap. refl })
