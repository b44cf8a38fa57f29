-- The moves that open, begin or close a stream, accept a write or read a block of a resync keep the spans; so does every run.
use Rattle.std.proofs.Common.{ℕ, ◌≡◌, ◌-◌, ◌+◌, ◌<◌, inl, inr, true, false, not, ◌==◌, List, [], ◌∷◌, ◌++◌, length, take, map, Option, Some, None, slice_get}
use Rattle.std.proofs.Common.{Ok, refl, sym, ◌∙◌, ap, subst, arith}
use Rattle.std.specs.Prelude.{is_some, unwrap_or}
use Rattle.std.proofs.lemmas.Bool.{cases_Bool, cases_lt, both_ways, and_parts, and_cases, and_from, not-false, eqb-true, lt-ltb, le-leb}
use Rattle.std.proofs.lemmas.Option.{slice_get_within}
use Rattle.std.proofs.lemmas.List.{append-nil}
use Rattle.std.proofs.Math.Seq.{take-append_seam}
use Rattle.blocks.specs.declared.tuple.Tuple.{Tuple}
use Rattle.model.specs.Contents.{Write, covers, overlay}
use Rattle.model.specs.Stream.{StreamItem, WriteItem, ResyncItem, UuidsItem, IsBeginning, epoch_of, last_epoch}
use Rattle.model.specs.Frames.{Received, Acknowledged, RsWriteAckFrame}
use Rattle.model.specs.Marks.{clearing}
use Rattle.model.specs.Primary.{LocalOutcome, Waiting, OnDisk, Failed, Accepted, PrimaryConnection, PrimaryHistory, primary_connection, with_primary_connection}
use Rattle.model.specs.Primary.{is_established, new_primary_connection}
use Rattle.model.specs.Primary.{local_layer, local_map, offset_reached, is_waiting, is_failed, is_resync, was_resynced, resync_runs}
use Rattle.model.specs.Primary.{in_resync, free_block, accepted_frames}
use Rattle.model.specs.PrimarySteps.{epoch_is_over, appending, opened, closing, copying, given}
use Rattle.laws.proofs.Tracked.Added.{none-read}
use Rattle.laws.proofs.Rules.FreeBlocks.{IsFree, free-found}
use Rattle.laws.proofs.Rules.EpochEnds.{goes-on}
use Rattle.laws.proofs.Lists.Beginnings.{begins-self}
use Rattle.laws.proofs.Lists.Elements.{get-left, get-more, same-at}
use Rattle.laws.proofs.Blocks.Overlays.{overlay-agrees, under-alike, under-outside, overlay-some}
use Rattle.laws.proofs.Streams.Lawful.{epoch-end, epoch-bound}
use Rattle.laws.proofs.Streams.Places.{epoch-grows}
use Rattle.laws.proofs.Primary.Homes.{HasHomes, open-at}
use Rattle.laws.proofs.Primary.Moves.{MayAcknowledge, with_frame}
use Rattle.laws.proofs.Primary.Ends.{not-refused, frames-refusing}
use Rattle.laws.proofs.Primary.LastOpen.{IsLastOpen, open-is-last}
use Rattle.laws.proofs.Primary.StaysClosed.{open-established}
use Rattle.laws.proofs.Primary.LastEpoch.{write-open}
use Rattle.laws.proofs.Tracked.Kept.{IsKnown, waits-open}
use Rattle.laws.proofs.Accounted.Moves.{first-carries}
use Rattle.laws.proofs.Accounted.Kept.{keeps-open, named-item, resynced-now}
use Rattle.laws.proofs.WriteOrder.Layers.{full_layer}
use Rattle.laws.proofs.WriteOrder.Sets.{IsRead}
use Rattle.laws.proofs.WriteOrder.Spans.{NoneFailed, IsAcknowledged, left_by, Passes}
use Rattle.laws.proofs.WriteOrder.SpanMoves.{HasSpans, span-shut, keeps-quiet}
use Rattle.laws.proofs.WriteOrder.SpanKept.{grows-with, grows-item, spans-end, spans-takes}
use Rattle.laws.proofs.Rules.RefusedFrames.{refused_out, refused_by, refused-last}
use Rattle.std.proofs.Common.{is_none}

-- An acknowledged block of a resync.
pub spans-clears : (h : PrimaryHistory) (ack : Acknowledged) → HasHomes h → IsLastOpen h → (primary_connection h).closed ≡ false
    → (primary_connection h).begun ≡ true
    → MayAcknowledge h is_resync was_resynced ack → HasSpans h
    → HasSpans (record (with_primary_connection (with_frame (Ok (RsWriteAckFrame ack))) h) { marks = clearing ack.first h.marks })
spans-clears h ack homes last standing begun may t =
    spans-takes h _ (Ok (RsWriteAckFrame ack)) homes last standing refl refl (
      refl,
      (refl, (refl, (refl, λ faithful. faithful))),
    ) (λ block unmarked. elim (and_cases (h.marks block) (not (block == ack.first)) unmarked) [
      | inl clean ↦ inl clean
      | inr cleared ↦
          let is : block ≡ ack.first = eqb-true block ack.first (not-false (block == ack.first) cleared) in
          let named = named-item h ack standing begun may in
          inr (subst (λ (b : ℕ). IsAcknowledged (with_frame (Ok (RsWriteAckFrame ack)) (primary_connection h)) b) (sym is) (record {
            place = ack.place;
            item = ResyncItem ack.first named.0;
            there = named.1.there;
            touched = and_from _ _ (le-leb ack.first ack.first (omega arith)) (lt-ltb ack.first (ack.first + 1) (omega arith));
            sure = resynced-now h ack named.0 (not-refused h homes standing (length h.connections - 1) (open-at h standing)) named.2;
          }))
    ]) t

-- The end closes.
pub spans-closes : (h : PrimaryHistory) → IsLastOpen h → HasSpans h → HasSpans (closing h)
spans-closes h last t =
    let f : PrimaryConnection → PrimaryConnection = λ c. record c { closed = true } in
    spans-end h (closing h) f last refl refl (refl, (refl, (refl, (refl, λ faithful. faithful)))) refl (begins-self (primary_connection h).taken)
    (keeps-quiet h (closing h) (f (primary_connection h)) refl
    (λ k at. grows-with (primary_connection h) (f (primary_connection h)) refl (omega arith) (begins-self (accepted_frames (primary_connection h))))
    (λ is. absurd (cc)) refl
    (λ unshut block unmarked. absurd (cc))) t

-- The same where it refuses a frame.
pub spans-refuses : (h : PrimaryHistory) (frame : Received) (peer : Option Tuple) → HasHomes h → IsLastOpen h → (primary_connection h).closed ≡ false
    → HasSpans h
    → HasSpans (closing (refused_by frame peer h))
spans-refuses h frame peer homes last standing t =
    let f : PrimaryConnection → PrimaryConnection = refused_out frame in
    let later : PrimaryHistory = closing (refused_by frame peer h) in
    spans-end h later f last (refused-last frame peer h) refl
    (refl, (refl, (refl, (refl, λ faithful. faithful)))) refl (frame ∷ [], refl)
    (keeps-quiet h later (f (primary_connection h)) refl
    (λ k at. grows-with (primary_connection h) (f (primary_connection h)) refl (omega arith)
    (subst (λ (l : List Received). IsBeginning (accepted_frames (primary_connection h)) l)
    (sym (frames-refusing (primary_connection h) frame (not-refused h homes standing k at))) (begins-self (accepted_frames (primary_connection h)))))
    (λ is. absurd (cc)) refl (λ unshut block unmarked. absurd (cc))) t

-- where the last end is closed, every end is
pub all-closed : (h : PrimaryHistory) → IsLastOpen h → (primary_connection h).closed ≡ true → (k : ℕ) (c : PrimaryConnection)
    → slice_get h.connections k ≡ Some c → c.closed ≡ true
all-closed h last shut k c at = elim (cases_Bool c.closed) [
  | inl is ↦ is
  | inr unshut ↦ absurd (both_ways (primary_connection h).closed
      (subst (λ (x : PrimaryConnection). x.closed ≡ false) (open-is-last h k c last at unshut).1 unshut) shut)
]

-- A connection opens.
pub spans-opens : (h : PrimaryHistory) (sync loss : ℕ) → IsLastOpen h → (primary_connection h).closed ≡ true → HasSpans h → HasSpans (opened h sync loss)
spans-opens h sync loss last shut t = record {
  spans = λ k c at begun. elim (get-more h.connections new k c at) [
    | inr added ↦ absurd (let no : c.begun ≡ false = ap (λ (x : PrimaryConnection). x.begun) added.1 in both_ways c.begun no begun)
    | inl old ↦
        let s = t.spans k c old begun in (
          s.0,
          s.1,
          span-shut h (opened h sync loss) k c s.0 s.1 passes old (all-closed h last shut k c old)
              (λ j e less there. get-left h.connections (new ∷ []) j e there)
              (λ n other b from there home. let within = slice_get_within h.writes n b there in omega arith) s.2,
        )
  ];
  quiet = λ none bitmap. t.quiet (λ k c at. none k c (get-left h.connections (new ∷ []) k c at)) bitmap;
}
  where
    new : PrimaryConnection
    new = new_primary_connection sync loss h.tuple

    passes : Passes h (opened h sync loss)
    passes = record {
      map = refl;
      tuple = refl;
      marks = refl;
      settings = refl;
      over = λ count block within. refl;
      writes = λ i b less at. (b, at, refl, refl);
      count = omega arith;
      fine = λ fine. fine;
      front = λ j c less at. get-left h.connections (new ∷ []) j c at;
      back = λ j c less at. elim (get-more h.connections new j c at) [ inl old ↦ old | inr added ↦ absurd (let end = added.0 in omega arith) ];
      first = λ decided. first-carries h (opened h sync loss) decided (keeps-open h sync loss) refl;
    }

-- What the local disk holds.

-- all elements of a list
pub take-all : {X : Type 0} (xs : List X) → take (length xs) xs ≡ xs
take-all xs = ap (take (length xs)) (sym (append-nil xs)) ∙ take-append_seam xs []

-- where no waiting write has the block, and none failed, it has what all writes leave
pub local-full : (h : PrimaryHistory) (block : ℕ) → NoneFailed h
    → ((i : ℕ) (a : Accepted) → slice_get h.writes i ≡ Some a → is_waiting a.outcome ≡ true → covers a.write block ≡ false)
    → local_map h block ≡ left_by h (length h.writes) block
local-full h block fine free =
    overlay-agrees local_layer full_layer h.opening_map h.writes block (λ i a at v. elim (cases_Bool (covers a.write block)) [
      | inr outside ↦ under-outside (local_layer a) block v outside ∙ sym (under-outside (full_layer a) block v outside)
      | inl inside ↦ under-alike a.write.first a.write.contents (offset_reached a.outcome) (λ offset. true) block v
          (reached a.outcome (fine.0 i a at) (λ waits. both_ways (covers a.write block) (free i a at waits) inside) (block - a.write.first))
    ])
    ∙ ap (λ (l : List Accepted). overlay h.opening_map (map full_layer l) block) (sym (take-all h.writes))
  where
    reached : (o : LocalOutcome) → is_failed o ≡ false → (is_waiting o ≡ true → ⊥) → (offset : ℕ) → offset_reached o offset ≡ true
    reached Waiting fails waits offset = absurd (waits refl)
    reached OnDisk fails waits offset = refl
    reached (Failed offsets) fails waits offset = absurd (cc)

-- A block of a resync is read: no open write has it.
pub spans-resyncs : (h : PrimaryHistory) (block : ℕ) (read : Option (List ℕ)) → IsKnown h → HasHomes h → IsLastOpen h → epoch_is_over h ≡ false
    → resync_runs (primary_connection h) ≡ true
    → free_block h ≡ Some block → HasSpans h
    → HasSpans (copying read block h)
spans-resyncs h block read known homes last on runs free t =
    spans-end h later f last refl refl (refl, (refl, (refl, (refl, λ faithful. (and_parts (is_none read) h.faithful faithful).1)))) refl
    (begins-self (primary_connection h).taken) (record {
      grows = λ k at. grows-item (primary_connection h) item;
      unshut = λ is. is;
      begun = refl;
      marks = λ fine unshut other inside unmarked. inl unmarked;
      reads = λ k older newer at s fine place other contents there. elim (get-more (primary_connection h).stream item place (ResyncItem other contents) there) [
        | inl old ↦ inl old
        | inr new ↦ inr (
            let same : ResyncItem other contents ≡ item = new.1 in
            let one : other ≡ block = ap first_block same in
            let held = and_parts (is_none read) h.faithful fine.1 in
            let two : contents ≡ unwrap_or (local_map h block) [] = ap contents_block same
            ∙ ap (λ (v : Option (List ℕ)). unwrap_or v (unwrap_or (local_map h block) [])) (none-read read held.0) in
            let size = new.0 in
            let short = s.rising in
            let still = s.still standing in
            subst (λ (b : ℕ). IsRead later k (f (primary_connection h)) older place b contents) (sym one) (record {
              count = length h.writes;
              more = omega arith;
              bound = omega arith;
              content = sym (local-full h block (fine.0, held.1) (λ i a ata waits. next.free i a ata (waits-open h known i a ata waits)))
                  ∙ (some-of (local_map h block) (overlay-some h.opening_map (map local_layer h.writes) block (known.tracked.sized block next.within))
                  ∙ ap (λ (l : List ℕ). Some l) (sym two));
              before = λ n a from less ata covered.
                  let home = s.own n a from (omega arith) ata in
                  let was = homes.housed n k home.0 a ata home.1 in
                  let item_there : slice_get (primary_connection h).stream home.0 ≡ Some (WriteItem a.write) =
                  subst (λ (c : PrimaryConnection). slice_get c.stream home.0 ≡ Some (WriteItem a.write))
                  (same-at h.connections k was.0 (primary_connection h) was.1 at)
                  was.2 in
                  let within = slice_get_within (primary_connection h).stream home.0 (WriteItem a.write) item_there in
                  let near = epoch-grows (primary_connection h).stream (item ∷ []) home.0 (omega arith) in
                  let far = epoch-end (primary_connection h).stream (item ∷ []) in
                  let bound = epoch-bound (primary_connection h).stream home.0 in (
                    home.0,
                    home.1,
                    (omega arith),
                    subst (λ (m : ℕ). epoch_of ((primary_connection h).stream ++ item ∷ []) home.0 < epoch_of ((primary_connection h).stream ++ item ∷ []) m)
                        (sym size)
                        (elim (cases_lt (epoch_of (primary_connection h).stream home.0) (last_epoch (primary_connection h).stream)) [
                          | inl low ↦ omega arith
                          | inr high ↦ absurd (
                              let equal : epoch_of (primary_connection h).stream home.0 ≡ last_epoch (primary_connection h).stream = omega arith in
                              let opened_one = write-open h (primary_connection h) k home.0 a.write homes at (goes-on h stood on) equal item_there in
                              let none = next.apart opened_one.0 opened_one.1 opened_one.2 in
                              both_ways (covers a.write block) (subst (λ (w : Write). covers w block ≡ false) opened_one.3 none) covered)
                        ]),
                  );
              after = λ n other_place a from ata home. absurd (let within = slice_get_within h.writes n a ata in omega arith);
            }))
      ];
      ends = λ n tuple there. elim (get-more (primary_connection h).stream item n (UuidsItem tuple) there)
          [ inl old ↦ inl old | inr new ↦ absurd (let e = new.1 in cc) ];
    }) t
  where
    item : StreamItem
    item = ResyncItem block (given read h block)

    f : PrimaryConnection → PrimaryConnection
    f c = record c { stream = c.stream ++ ResyncItem block (given read h block) ∷ [] }

    later : PrimaryHistory
    later = copying read block h

    stood : is_established (primary_connection h) ≡ true
    stood = (and_parts (is_established (primary_connection h)) (in_resync (primary_connection h).stream) runs).0

    standing : (primary_connection h).closed ≡ false
    standing = open-established (primary_connection h) stood

    first_block : StreamItem → ℕ
    first_block (ResyncItem b c) = b
    first_block _ = 0

    contents_block : StreamItem → List ℕ
    contents_block (ResyncItem b c) = c
    contents_block _ = []

    next : IsFree h block
    next = free-found h block free

    some-of : (v : Option (List ℕ)) → is_some v ≡ true → v ≡ Some (unwrap_or v [])
    some-of None is = absurd (cc)
    some-of (Some x) is = refl
