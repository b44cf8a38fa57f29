-- What a primary's history keeps of its blocks is kept by what follows a step, and by every move that adds no write and no block.
use Rattle.std.proofs.Common.{ℕ, zero, suc, ◌≡◌, ◌-◌, ◌<◌, inl, inr, Bool, true, false, not, ◌&&◌, List, [], ◌∷◌, ◌++◌, length, map, Option, Some, None}
use Rattle.std.proofs.Common.{slice_get, Ok, refl, sym, ◌∙◌, ap, subst, arith, ◌==◌, nat_lt}
use Rattle.std.specs.Prelude.{if◌then◌else◌}
use Rattle.std.specs.List.{list_any}
use Rattle.std.proofs.lemmas.Bool.{cases_Bool, both_ways, not-false, and_parts, and_cases, and_from, not_from_false, or_cases, eqb-true, lt-ltb}
use Rattle.std.proofs.lemmas.List.Folds.{list_any-append}
use Rattle.blocks.specs.declared.tuple.Tuple.{Tuple}
use Rattle.blocks.specs.declared.outcome.Decision.{Decision}
use Rattle.blocks.specs.declared.outcome.Decision.TheVariants.{NoSync, BitmapSync, FullSync}
use Rattle.model.specs.Contents.{covers}
use Rattle.model.specs.Stream.{StreamItem, WriteItem, ResyncItem, BarrierItem, SyncUuidItem, UuidsItem, last_epoch}
use Rattle.model.specs.Frames.{Received, UuidsFrame, RsWriteAckFrame, Acknowledged, naming}
use Rattle.model.specs.Identifiers.{are_fresh, sync_start, sync_end, lost}
use Rattle.model.specs.Marks.{Marks, clearing, marking_all, marking_unreleased}
use Rattle.model.specs.Primary.{Accepted, Completion, PrimaryConnection, PrimaryHistory, no_primary_connection, last_of, primary_connection, last_index}
use Rattle.model.specs.Primary.{change_last, with_primary_connection, is_established}
use Rattle.model.specs.Primary.{is_on_disk, is_completed, is_open, completes, new_primary_connection}
use Rattle.model.specs.Primary.{is_resync, was_resynced, same_naming, items_sent}
use Rattle.model.specs.PrimarySteps.{known_tuples, newly_completed, completion_of, with_completions, epoch_is_over, appending, resync_is_over, ending_resync}
use Rattle.model.specs.PrimarySteps.{opened, closing, receipted}
use Rattle.model.specs.Acknowledgements.{begun_with}
use Rattle.laws.proofs.Rules.Completions.{completes-parts}
use Rattle.laws.proofs.Rules.ResyncEnds.{over-established}
use Rattle.laws.proofs.Rules.CloseMarks.{close-keeps}
use Rattle.laws.proofs.Rules.EpochEnds.{over-standing}
use Rattle.laws.specs.Reflections.{content_at}
use Rattle.laws.proofs.Blocks.LatestPlaces.{latest-last}
use Rattle.laws.proofs.Lists.Last.{last-change, change-twice, last-more}
use Rattle.laws.proofs.Primary.Moves.{with_frame, pushing, MayAcknowledge}
use Rattle.laws.proofs.Primary.Homes.{HasHomes, open-at}
use Rattle.laws.proofs.Primary.HomesMoves.{homes-kept}
use Rattle.laws.proofs.Blocks.Latest.{latest, content_of, sent_map, settling_map}
use Rattle.laws.proofs.Blocks.LatestMoves.{latest-same, latest-appended, latest-opened}
use Rattle.laws.proofs.Tracked.{IsUnderWay, IsCopy, IsTracked}
use Rattle.laws.proofs.Lists.Picks.{pick-any, pick-filtered, pick-image}
use Rattle.laws.proofs.Tracked.Moves.{some-connection, unanswered-before, untouched, changed, tracked-quiet, tracked-turn, tracked-appending}
use Rattle.laws.proofs.Primary.Ends.{established-parts, not-refused, frames-taking}
use Rattle.laws.proofs.Primary.HomesFollowing.{homes-completions, homes-ending, homes-parting}
use Rattle.laws.proofs.Rules.RefusedFrames.{refusing, refused_by}
use Rattle.std.proofs.Common.{IsTrue}

-- What follows a step.

-- two accepted writes of one number are one
pub same-number : (h : PrimaryHistory) (i j : ℕ) (a b : Accepted) → HasHomes h → slice_get h.writes i ≡ Some a → slice_get h.writes j ≡ Some b
    → a.write.number ≡ b.write.number → a ≡ b
same-number h i j a b homes ata atb same =
    let na = homes.numbered i a ata in
    let nb = homes.numbered j b atb in
    let index : i ≡ j = omega arith in
    let moved : slice_get h.writes j ≡ Some a = subst (λ n. slice_get h.writes n ≡ Some a) index ata in
    cc

-- The journal gets writes that are on the local disk.
pub tracked-completions : (h : PrimaryHistory) → IsTracked h → IsTracked (with_completions h)
tracked-completions h t = record {
  homes = homes-completions h t.homes;
  sized = t.sized;
  writes_inside = t.writes_inside;
  items_inside = t.items_inside;
  on_disk = λ i accepted at done. elim
      (or_cases (is_completed h accepted.write.number) (list_any (has accepted) entries) (sym (list_any-append (has accepted) h.journal entries) ∙ done)) [
        | inl before ↦ t.on_disk i accepted at before
        | inr now ↦
            let entry = pick-any (has accepted) entries now in
            let of = pick-image (completion_of h) (newly_completed h) entry.0 entry.1 entry.2 in
            let stood = pick-filtered (λ a. is_open h a && completes h a) h.writes entry.0 of.0 of.1 in
            let number : entry.1.write.number ≡ accepted.write.number = eqb-true entry.1.write.number accepted.write.number entry.3 in
            let same : of.0 ≡ accepted = same-number h stood.0 i of.0 accepted t.homes stood.1 at (ap (λ (e : Completion). e.write.number) of.2 ∙ number) in
            let disk : is_on_disk of.0.outcome ≡ true =
            (completes-parts h of.0 (and_parts (is_open h of.0) (completes h of.0) stood.2).1).0 in
            subst (λ (a : Accepted). is_on_disk a.outcome ≡ true) same disk
      ];
  under_way = t.under_way;
  copied = t.copied;
  equal = t.equal;
}
  where
    entries : List Completion
    entries = map (completion_of h) (newly_completed h)

    has : Accepted → Completion → Bool
    has accepted entry = entry.write.number == accepted.write.number

-- A barrier ends an epoch.
pub tracked-parting : (g : PrimaryHistory) → epoch_is_over g ≡ true → IsTracked g
    → IsTracked (appending (BarrierItem (last_epoch (primary_connection g).stream)) g)
tracked-parting g over t = tracked-appending g (BarrierItem (last_epoch (primary_connection g).stream)) g.tuple
    (established-parts (primary_connection g) (over-standing g over)).0 refl
    refl t (homes-parting g over t.homes)

-- A resync ends.
pub tracked-ending : (g : PrimaryHistory) → resync_is_over g ≡ true → IsTracked g → IsTracked (ending_resync g)
tracked-ending g over t = tracked-appending g (UuidsItem (sync_end g.tuple)) (sync_end g.tuple) (established-parts
    (primary_connection g) (over-established g over)).0 refl refl t (homes-ending g over t.homes)

-- Connections open, begin and close.

-- A new connection has not begun.
pub tracked-opens : (h : PrimaryHistory) (sync loss : ℕ) → (primary_connection h).closed ≡ true → are_fresh sync loss (known_tuples h) ≡ true → IsTracked h
    → IsTracked (opened h sync loss)
tracked-opens h sync loss closed fresh t =
    let new : PrimaryConnection = new_primary_connection sync loss h.tuple in
    let none : is_established (primary_connection (opened h sync loss)) ≡ false =
    ap is_established (last-more (no_primary_connection h.tuple) new h.connections) in
    tracked-quiet h (h.connections ++ new ∷ []) h.marks h.tuple h.peer h.receipts t (homes-kept.opens h sync loss closed fresh t.homes)
    (λ block. latest-opened h.connections new block refl)
    (λ stood. absurd (both_ways (is_established (primary_connection (opened h sync loss))) none stood))
    (λ place block contents stood there. absurd (both_ways (is_established (primary_connection (opened h sync loss))) none stood)) t.equal

-- a stream without items has no block of a resync, nor has one that only begins a resync
no-block : (place block : ℕ) (contents : List ℕ) → slice_get [] place ≡ Some (ResyncItem block contents) → ⊥
no-block place block contents at = absurd (cc)

no-block-begun : (word place block : ℕ) (contents : List ℕ) → slice_get (SyncUuidItem word ∷ []) place ≡ Some (ResyncItem block contents) → ⊥
no-block-begun word zero block contents at = cc
no-block-begun word (suc place) block contents at = cc

-- The stream begins: nothing is under way on it, and a full resync marks every block.
pub tracked-begins : (h : PrimaryHistory) (peer : Tuple) (decided : Decision) → (primary_connection h).closed ≡ false → (primary_connection h).begun ≡ false
    → IsTracked h
    → HasHomes (begun_with decided (record (with_primary_connection (with_frame (Ok (UuidsFrame peer))) h) { peer = Some peer }))
    → IsTracked (begun_with decided (record (with_primary_connection (with_frame (Ok (UuidsFrame peer))) h) { peer = Some peer }))
tracked-begins h peer decided standing new t = go decided
  where
    seen : PrimaryHistory
    seen = record (with_primary_connection (with_frame (Ok (UuidsFrame peer))) h) { peer = Some peer }

    empty : (primary_connection h).stream ≡ []
    empty = t.homes.empty (length h.connections - 1) (primary_connection h) (open-at h standing) new

    beginning : (g : PrimaryConnection → PrimaryConnection) (marks : Marks) (tuple : Tuple)
        → HasHomes (changed h (change_last g (change_last (with_frame (Ok (UuidsFrame peer))) h.connections)) marks tuple (Some peer) h.receipts)
        → ((block : ℕ) → latest (change_last (λ c. g (with_frame (Ok (UuidsFrame peer)) c)) h.connections) block ≡ latest h.connections block)
        → ((place block : ℕ) (contents : List ℕ)
        → slice_get (g (with_frame (Ok (UuidsFrame peer)) (primary_connection h))).stream place ≡ Some (ResyncItem block contents)
        → ⊥)
        → ((block : ℕ) → block < h.settings.blocks → marks block ≡ false → IsTrue h.faithful → sent_map h block ≡ settling_map h block)
        → IsTracked (changed h (change_last g (change_last (with_frame (Ok (UuidsFrame peer))) h.connections)) marks tuple (Some peer) h.receipts)
    beginning g marks tuple homes same none equal =
        let f : PrimaryConnection → PrimaryConnection = λ c. g (with_frame (Ok (UuidsFrame peer)) c) in
        let twice : change_last g (change_last (with_frame (Ok (UuidsFrame peer))) h.connections) ≡ change_last f h.connections =
        change-twice (with_frame (Ok (UuidsFrame peer))) g h.connections in
        subst (λ (cs : List PrimaryConnection). IsTracked (changed h cs marks tuple (Some peer) h.receipts)) (sym twice)
        (tracked-turn h f marks tuple (Some peer) h.receipts standing t
        (subst (λ (cs : List PrimaryConnection). HasHomes (changed h cs marks tuple (Some peer) h.receipts)) twice homes) same
        (λ place block contents stood there. absurd (none place block contents there)) equal)

    started : (word : ℕ) (block : ℕ)
        → latest (change_last (λ (c : PrimaryConnection). record c {
          taken = c.taken ++ Ok (UuidsFrame peer) ∷ [];
          begun = true;
          stream = SyncUuidItem word ∷ [];
        })
        h.connections) block ≡ latest h.connections block
    started word block =
        let item : StreamItem = SyncUuidItem word in
        latest-appended (no_primary_connection h.tuple)
        (λ (c : PrimaryConnection). record c { taken = c.taken ++ Ok (UuidsFrame peer) ∷ []; begun = true; stream = SyncUuidItem word ∷ [] }) item h.connections
        block
        (some-connection h standing)
        (ap (λ (l : List StreamItem). l ++ item ∷ []) (sym empty))
        ∙ ap (λ b. if b then Some (record { connection = last_index h.connections; place = length (primary_connection h).stream; item = item })
        else latest h.connections block) (untouched item block refl refl)

    go : (v : Decision) → HasHomes (begun_with v seen) → IsTracked (begun_with v seen)
    go NoSync homes =
        beginning (λ c. record c { begun = true }) h.marks h.tuple homes (λ block. latest-same _ h.connections block (λ c. refl))
        (λ place block contents there. no-block place block contents
        (subst (λ (l : List StreamItem). slice_get l place ≡ Some (ResyncItem block contents)) empty there)) t.equal
    go BitmapSync homes =
        let word : ℕ = (primary_connection seen).sync in
        beginning (λ c. record c { begun = true; stream = SyncUuidItem word ∷ [] }) h.marks (sync_start word h.tuple) homes (started word)
        (no-block-begun word) t.equal
    go FullSync homes =
        let word : ℕ = (primary_connection seen).sync in
        beginning (λ c. record c { begun = true; stream = SyncUuidItem word ∷ [] }) (marking_all h.settings.blocks) (sync_start word h.tuple) homes
        (started word) (no-block-begun word)
        (λ block within unmarked. absurd (both_ways (nat_lt block h.settings.blocks) unmarked (lt-ltb block h.settings.blocks within)))

-- a closed end has nothing under way
closed-last : (none : PrimaryConnection) (connections : List PrimaryConnection) → none.closed ≡ true
    → (last_of none (change_last (λ (c : PrimaryConnection). record c { closed = true }) connections)).closed ≡ true
closed-last none connections closed = elim (last-change (λ (c : PrimaryConnection). record c { closed = true }) none none connections) [
  | inl empty ↦ ap (λ (l : List PrimaryConnection). (last_of none (change_last (λ (c : PrimaryConnection). record c { closed = true }) l)).closed) empty
      ∙ closed
  | inr changed ↦ ap (λ (c : PrimaryConnection). c.closed) changed
]

-- The end closes: marks are only set.
tracked-closed : (h : PrimaryHistory) (connections : List PrimaryConnection) (marks : Marks) (tuple : Tuple) (peer : Option Tuple) → IsTracked h
    → HasHomes (changed h (change_last (λ c. record c { closed = true }) connections) marks tuple peer h.receipts)
    → ((block : ℕ) → latest connections block ≡ latest h.connections block)
    → ((block : ℕ) → marks block ≡ false → h.marks block ≡ false)
    → IsTracked (changed h (change_last (λ c. record c { closed = true }) connections) marks tuple peer h.receipts)
tracked-closed h connections marks tuple peer t homes same grow =
    tracked-quiet h (change_last (λ c. record c { closed = true }) connections) marks tuple peer h.receipts t homes
    (λ block. latest-same (λ c. record c { closed = true }) connections block (λ c. refl) ∙ same block)
    (λ stood. absurd (shut stood)) (λ place block contents stood there. absurd (shut stood))
    (λ block within unmarked. t.equal block within (grow block unmarked))
  where
    last : PrimaryConnection
    last = last_of (no_primary_connection tuple) (change_last (λ (c : PrimaryConnection). record c { closed = true }) connections)

    shut : is_established last ≡ true → ⊥
    shut stood = both_ways last.closed (established-parts last stood).0 (closed-last (no_primary_connection tuple) connections refl)

-- The primary closes its end.
pub tracked-closes : (h : PrimaryHistory) → (primary_connection h).closed ≡ false → IsTracked h → IsTracked (closing h)
tracked-closes h standing t =
    tracked-closed h h.connections (marking_unreleased h) (if (primary_connection h).begun then lost (primary_connection h).loss h.tuple
    else h.tuple) h.peer t (homes-kept.closes h standing t.homes) (λ block. refl) (λ block unmarked. close-keeps h block unmarked)

-- A frame is refused, and the end closes.
pub tracked-refuses : (h : PrimaryHistory) (frame : Received) (peer : Option Tuple) → (primary_connection h).closed ≡ false → IsTracked h
    → IsTracked (closing (refused_by frame peer h))
tracked-refuses h frame peer standing t =
    let g : PrimaryHistory = refused_by frame peer h in
    tracked-closed h (change_last refusing (change_last (with_frame frame) h.connections)) (marking_unreleased g) (if (primary_connection g).begun
    then lost (primary_connection g).loss h.tuple else h.tuple) peer t (homes-kept.refuses h frame peer standing t.homes)
    (λ block. latest-same refusing (change_last (with_frame frame) h.connections) block (λ c. refl)
    ∙ latest-same (with_frame frame) h.connections block (λ c. refl)) (λ block unmarked. close-keeps g block unmarked)

-- Frames go out and come in.

-- A frame is sent.
pub tracked-sends : (h : PrimaryHistory) → (primary_connection h).closed ≡ false → IsTracked h → HasHomes (with_primary_connection pushing h)
    → IsTracked (with_primary_connection pushing h)
tracked-sends h standing t homes = tracked-turn h pushing h.marks h.tuple h.peer h.receipts standing t homes
    (λ block. latest-same pushing h.connections block (λ c. refl))
    (λ place block contents stood there. record { standing = stood; there = there; unanswered = λ unanswered. unanswered; writes = λ next write at. at })
    t.equal

-- A frame is taken, and marks may change where what was sent is the same.
tracked-taking : (h : PrimaryHistory) (frame : Received) (marks : Marks) → (primary_connection h).closed ≡ false → IsTracked h
    → HasHomes (changed h (change_last (with_frame frame) h.connections) marks h.tuple h.peer h.receipts)
    → ((block : ℕ) → block < h.settings.blocks → marks block ≡ false → IsTrue h.faithful → sent_map h block ≡ settling_map h block)
    → IsTracked (changed h (change_last (with_frame frame) h.connections) marks h.tuple h.peer h.receipts)
tracked-taking h frame marks standing t homes equal = tracked-turn h (with_frame frame) marks h.tuple h.peer h.receipts standing t homes
    (λ block. latest-same (with_frame frame) h.connections block (λ c. refl))
    (λ place block contents stood there. record {
      standing = stood;
      there = there;
      unanswered = unanswered-before (primary_connection h) (with_frame frame (primary_connection h)) place (ResyncItem block contents)
          (frames-taking (primary_connection h) frame (not-refused h t.homes standing (length h.connections - 1) (open-at h standing)));
      writes = λ next write at. at;
    }) equal

-- A frame is taken.
pub tracked-takes : (h : PrimaryHistory) (frame : Received) → (primary_connection h).closed ≡ false → IsTracked h
    → HasHomes (with_primary_connection (with_frame frame) h)
    → IsTracked (with_primary_connection (with_frame frame) h)
tracked-takes h frame standing t homes = tracked-taking h frame h.marks standing t homes t.equal

-- A receipt is taken.
pub tracked-receipts : (h : PrimaryHistory) (number : ℕ) → IsTracked h → IsTracked (receipted number h)
tracked-receipts h number t = tracked-quiet h h.connections h.marks h.tuple h.peer (h.receipts ++ number ∷ []) t (homes-kept.receipts h number t.homes)
    (λ block. refl) (λ stood. refl)
    (λ place block contents stood there. record { standing = stood; there = there; unanswered = λ unanswered. unanswered; writes = λ next write at. at })
    t.equal

-- no write behind a block that is under way has it
pub under-way-copied : (h : PrimaryHistory) (place block : ℕ) (contents : List ℕ) → IsTracked h → IsUnderWay (primary_connection h) place block contents
    → IsCopy (primary_connection h) place block contents
under-way-copied h place block contents t way = record {
  standing = way.standing;
  there = way.there;
  last = λ next write after at. elim (cases_Bool (covers write block)) [
    | inr apart ↦ apart
    | inl covered ↦ absurd (elim (latest-last h.connections block _ (t.under_way place block contents way) (last_index h.connections) next
        (primary_connection h)
        (WriteItem write) (open-at h (established-parts (primary_connection h) way.standing).0) at covered) [
          | inl before ↦ omega arith
          | inr here ↦ let low = here.1 in omega arith
        ])
  ];
}

-- what a block of a resync puts into its block
pub copy-content : (block : ℕ) (contents : List ℕ) → content_at (ResyncItem block contents) block ≡ Some contents
copy-content block contents = let none : block - block ≡ 0 = omega arith in ap (λ (n : ℕ). slice_get (contents ∷ []) n) none

-- on a block that is under way what was sent is what the local disk comes to hold
under-way-equal : (h : PrimaryHistory) (place block : ℕ) (contents : List ℕ) → IsTracked h → IsUnderWay (primary_connection h) place block contents
    → IsTrue h.faithful → sent_map h block ≡ settling_map h block
under-way-equal h place block contents t way faithful =
    ap (content_of (h.opening_map block) block) (t.under_way place block contents way)
    ∙ (copy-content block contents ∙ sym ((t.copied place block contents (under-way-copied h place block contents t way)).0 faithful))

-- A block's acknowledgement clears its mark: it was under way.
pub tracked-clears : (h : PrimaryHistory) (ack : Acknowledged) → (primary_connection h).closed ≡ false → (primary_connection h).begun ≡ true
    → MayAcknowledge h is_resync was_resynced ack → IsTracked h
    → IsTracked (record (with_primary_connection (with_frame (Ok (RsWriteAckFrame ack))) h) { marks = clearing ack.first h.marks })
tracked-clears h ack standing begun may t =
    tracked-taking h (Ok (RsWriteAckFrame ack)) (clearing ack.first h.marks) standing t (homes-kept.clears h ack standing begun may t.homes)
    (λ block within unmarked. elim (and_cases (h.marks block) (not (block == ack.first)) unmarked) [
      | inl before ↦ t.equal block within before
      | inr cleared ↦ let is : block ≡ ack.first = eqb-true block ack.first (not-false (block == ack.first) cleared) in subst
          (λ (b : ℕ). IsTrue h.faithful → sent_map h b ≡ settling_map h b) (sym is) (there (slice_get (primary_connection h).stream ack.place) refl may.names may.first)
    ])
  where
    stood : is_established (primary_connection h) ≡ true
    stood = and_from (not (primary_connection h).closed) (primary_connection h).begun (not_from_false (primary_connection h).closed standing) begun

    block-of : (item : StreamItem) → slice_get (primary_connection h).stream ack.place ≡ Some item → is_resync item ≡ true
        → same_naming (naming ack.place item) ack ≡ true
        → was_resynced (primary_connection h) ack.place item ≡ false → IsTrue h.faithful → sent_map h ack.first ≡ settling_map h ack.first
    block-of (WriteItem write) is resync same open_yet = absurd (cc)
    block-of (ResyncItem block contents) is resync same open_yet =
        let parts = and_parts ((block == ack.first) && (0 == ack.number)) ((1 == ack.count) && (ack.place == ack.place)) same in
        let first : block ≡ ack.first = eqb-true block ack.first (and_parts (block == ack.first) (0 == ack.number) parts.0).0 in
        subst (λ (b : ℕ). IsTrue h.faithful → sent_map h b ≡ settling_map h b) first
        (under-way-equal h ack.place block contents t (record { standing = stood; there = is; unanswered = open_yet }))
    block-of (BarrierItem epoch) is resync same open_yet = absurd (cc)
    block-of (SyncUuidItem word) is resync same open_yet = absurd (cc)
    block-of (UuidsItem tuple) is resync same open_yet = absurd (cc)

    there : (v : Option StreamItem) → slice_get (primary_connection h).stream ack.place ≡ v
        → elim v as (λ _. Bool) [
          | None ↦ false
          | Some item ↦ (is_resync item && same_naming (naming ack.place item) ack)
              && nat_lt ack.place (items_sent (primary_connection h))
        ] ≡ true
        → elim v as (λ _. Bool) [ None ↦ false | Some item ↦ was_resynced (primary_connection h) ack.place item ] ≡ false
        → IsTrue h.faithful → sent_map h ack.first ≡ settling_map h ack.first
    there None is names first = absurd (cc)
    there (Some item) is names first =
        let parts = and_parts (is_resync item) (same_naming (naming ack.place item) ack)
        (and_parts (is_resync item && same_naming (naming ack.place item) ack) (nat_lt ack.place (items_sent (primary_connection h))) names).0 in
        block-of item is parts.0 parts.1 first
