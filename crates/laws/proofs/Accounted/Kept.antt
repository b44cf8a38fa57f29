-- Every move of a primary keeps the account of its unmarked blocks.
use Rattle.std.proofs.Common.{ℕ, ◌≡◌, ◌-◌, ◌+◌, ◌≤◌, ◌<◌, ◌⊎◌, inl, inr, Bool, true, false, not, ◌&&◌, ◌||◌, List, [], ◌∷◌, length, Option, Some, None}
use Rattle.std.proofs.Common.{slice_get, Ok, refl, sym, ◌∙◌, ap, subst, arith, ◌==◌, nat_lt, nat_le}
use Rattle.std.specs.Prelude.{unwrap_or}
use Rattle.std.specs.List.{list_any}
use Rattle.std.proofs.lemmas.Bool.{cases_Bool, both_ways, or_left, or_right, and_parts, and_from, not-false, eqb-true, leb-true, ltb-true}
use Rattle.std.proofs.lemmas.List.Folds.{list_any-append}
use Rattle.blocks.specs.declared.settings.Settings.{Settings}
use Rattle.blocks.specs.declared.tuple.Tuple.{Tuple}
use Rattle.model.specs.Contents.{BlockMap, Write, covers}
use Rattle.model.specs.Stream.{StreamItem, WriteItem, ResyncItem, BarrierItem, SyncUuidItem, UuidsItem, last_epoch, within}
use Rattle.model.specs.Frames.{Received, RecvAckFrame, WriteAckFrame, RsWriteAckFrame, BarrierAckFrame, Acknowledged, naming}
use Rattle.model.specs.Identifiers.{are_fresh, sync_end}
use Rattle.model.specs.Marks.{marking, clearing}
use Rattle.model.specs.Primary.{OnDisk, Failed, Accepted, PrimaryConnection, PrimaryHistory, primary_opening, no_primary_connection, primary_connection}
use Rattle.model.specs.Primary.{last_index, change_last, with_primary_connection}
use Rattle.model.specs.Primary.{is_established, in_resync, free_block, resync_runs, is_resync, was_resynced, local_map, is_rs_write_ack, under_way}
use Rattle.model.specs.Primary.{same_naming, items_sent, new_primary_connection}
use Rattle.model.specs.PrimarySteps.{known_tuples, with_completions, epoch_is_over, appending, resync_is_over, ending_resync, follows, opened, is_unfinished}
use Rattle.model.specs.PrimarySteps.{with_outcome, faulted, accepted_at, faulted_by}
use Rattle.laws.proofs.Rules.FreeBlocks.{free-found}
use Rattle.laws.proofs.Rules.Marking.{unmarked-by}
use Rattle.laws.proofs.Rules.EpochEnds.{over-standing}
use Rattle.laws.specs.Reflections.{touches, is_sure}
use Rattle.laws.proofs.Lists.Beginnings.{begins-self}
use Rattle.laws.proofs.Lists.Last.{get-last-changed}
use Rattle.laws.proofs.Primary.Moves.{following-from, IsKeptByMoves, MayAcknowledge, with_frame, pushing}
use Rattle.laws.proofs.Primary.Homes.{grows-self, open-at}
use Rattle.laws.proofs.Blocks.Latest.{Touch, latest}
use Rattle.laws.proofs.Blocks.LatestMoves.{latest-same-last, latest-opened}
use Rattle.laws.proofs.Blocks.LatestPlaces.{latest-at}
use Rattle.laws.proofs.Tracked.{IsUnderWay}
use Rattle.laws.proofs.Tracked.Kept.{IsKnown, known-kept, known-completions, known-parting, known-ending}
use Rattle.laws.proofs.Tracked.Quiet.{under-way-copied}
use Rattle.laws.proofs.Accounted.{sure-last, IsAccounted, Carries, KeepsBegun}
use Rattle.laws.proofs.Accounted.Moves.{settled-carries, waiting-carries, first-carries}
use Rattle.laws.proofs.Accounted.AcceptingAndClosing.{account-submits, account-closes, account-refuses}
use Rattle.laws.proofs.Accounted.Begins.{account-begins}
use Rattle.laws.proofs.Accounted.Steps.{KeepsEnd, carries-change, begun-change, accounted-carries, accounted-change, accounted-still, keeps-pushed, keeps-taken}
use Rattle.laws.proofs.Accounted.Steps.{open-plain, begun-at, accounted-appending}
use Rattle.laws.proofs.Primary.Writes.{KeepsWrites, keeps-writes, keeps-outcome}
use Rattle.laws.proofs.Lists.Elements.{get-left, get-more}
use Rattle.laws.proofs.Blocks.Ranges.{touches-nothing}
use Rattle.laws.proofs.Primary.Ends.{established-parts, accepted-all}
use Rattle.laws.proofs.Primary.HomesFollowing.{runs-begun}
use Rattle.std.proofs.lemmas.Option.{slice_get_past}
use Rattle.model.specs.PrimarySteps.{copying}
use Rattle.model.specs.PrimarySteps.{given}
use Rattle.std.proofs.Common.{IsTrue}
use Rattle.std.proofs.Common.{is_none}

-- A new connection has an empty stream.
carries-open : (h : PrimaryHistory) (sync loss : ℕ) → Carries h (opened h sync loss)
carries-open h sync loss =
    let new : PrimaryConnection = new_primary_connection sync loss h.tuple in
    record {
      grow = λ k c at. (c, get-left h.connections (new ∷ []) k c at, grows-self c);
      former =
          λ k d at. elim (get-more h.connections new k d at) [
            | inl old ↦ inl (d, old, λ c. c, begins-self d.taken)
            | inr added ↦ inr
                (subst (λ (n : ℕ). slice_get h.connections n ≡ None) (sym added.0) (slice_get_past h.connections (length h.connections) (omega arith)))
          ];
      writes = λ i a at. (a, at, refl, refl, λ w. w);
      faithful = λ faithful. faithful;
    }

pub keeps-open : (h : PrimaryHistory) (sync loss : ℕ) → KeepsBegun h (opened h sync loss)
keeps-open h sync loss =
    let new : PrimaryConnection = new_primary_connection sync loss h.tuple in
    record {
      forward = λ k c at begun. (c, get-left h.connections (new ∷ []) k c at, begun, begins-self c.taken);
      back = λ k d at. elim (get-more h.connections new k d at)
          [ inl old ↦ inl (d, old, refl) | inr added ↦ inr (ap (λ (x : PrimaryConnection). x.begun) added.1) ];
    }

same-some : {X : Type 0} {x y : X} → Some x ≡ Some y → x ≡ y
same-some {X} {x} {y} e = cc

-- An acknowledgement of a resync names a block that is under way.
pub named-item : (h : PrimaryHistory) (ack : Acknowledged) → (primary_connection h).closed ≡ false → (primary_connection h).begun ≡ true
    → MayAcknowledge h is_resync was_resynced ack
    → (contents : List ℕ) × IsUnderWay (primary_connection h) ack.place ack.first contents
    × (same_naming (naming ack.place (ResyncItem ack.first contents)) ack ≡ true)
named-item h ack standing begun may = go (slice_get (primary_connection h).stream ack.place) refl may.names may.first
  where
    stood : is_established (primary_connection h) ≡ true
    stood = and_from (not (primary_connection h).closed) (primary_connection h).begun (subst (λ b. not b ≡ true) (sym standing) refl) begun

    one : (item : StreamItem) → slice_get (primary_connection h).stream ack.place ≡ Some item
        → ((is_resync item && same_naming (naming ack.place item) ack) && nat_lt ack.place (items_sent (primary_connection h))) ≡ true
        → was_resynced (primary_connection h) ack.place item ≡ false
        → (contents : List ℕ) × IsUnderWay (primary_connection h) ack.place ack.first contents
        × (same_naming (naming ack.place (ResyncItem ack.first contents)) ack ≡ true)
    one (WriteItem write) is names first = absurd (cc)
    one (BarrierItem epoch) is names first = absurd (cc)
    one (SyncUuidItem word) is names first = absurd (cc)
    one (UuidsItem tuple) is names first = absurd (cc)
    one (ResyncItem block contents) is names first =
        let both = (and_parts (same_naming (naming ack.place (ResyncItem block contents)) ack) (nat_lt ack.place (items_sent (primary_connection h)))
        names).0 in
        let firsts = (and_parts ((block == ack.first) && (0 == ack.number)) ((1 == ack.count) && (ack.place == ack.place)) both).0 in
        let same : block ≡ ack.first = eqb-true block ack.first (and_parts (block == ack.first) (0 == ack.number) firsts).0 in (
          contents,
          subst (λ (b : ℕ). IsUnderWay (primary_connection h) ack.place b contents) same (record { standing = stood; there = is; unanswered = first }),
          subst (λ (b : ℕ). same_naming (naming ack.place (ResyncItem b contents)) ack ≡ true) same both,
        )

    go : (v : Option StreamItem) → slice_get (primary_connection h).stream ack.place ≡ v
        → elim v as (λ _. Bool) [
          | None ↦ false
          | Some item ↦ (is_resync item && same_naming (naming ack.place item) ack)
              && nat_lt ack.place (items_sent (primary_connection h))
        ] ≡ true
        → elim v as (λ _. Bool) [ None ↦ false | Some item ↦ was_resynced (primary_connection h) ack.place item ] ≡ false
        → (contents : List ℕ) × IsUnderWay (primary_connection h) ack.place ack.first contents
        × (same_naming (naming ack.place (ResyncItem ack.first contents)) ack ≡ true)
    go None is names first = absurd (cc)
    go (Some item) is names first = one item is names first

-- once its frame is taken, the block is acknowledged
pub resynced-now : (h : PrimaryHistory) (ack : Acknowledged) (contents : List ℕ) → (primary_connection h).refused ≡ false
    → same_naming (naming ack.place (ResyncItem ack.first contents)) ack ≡ true
    → was_resynced (with_frame (Ok (RsWriteAckFrame ack)) (primary_connection h)) ack.place (ResyncItem ack.first contents) ≡ true
resynced-now h ack contents plain same =
    let test = is_rs_write_ack (naming ack.place (ResyncItem ack.first contents)) in
    ap (list_any test) (accepted-all (with_frame (Ok (RsWriteAckFrame ack)) (primary_connection h)) plain)
    ∙ (list_any-append test (primary_connection h).taken (Ok (RsWriteAckFrame ack) ∷ [])
    ∙ or_right (list_any test (primary_connection h).taken) (same_naming (naming ack.place (ResyncItem ack.first contents)) ack || false)
    (or_left (same_naming (naming ack.place (ResyncItem ack.first contents)) ack) false same))

-- What follows a step's effect.
account-completions : (h : PrimaryHistory) → IsAccounted h → IsAccounted (with_completions h)
account-completions h accounted = accounted-still h (with_completions h) accounted (known-completions h accounted.known) refl
    (keeps-writes h.writes) refl refl refl (λ none. refl) (λ block unmarked. unmarked) (λ faithful. faithful)

account-parting : (g : PrimaryHistory) → epoch_is_over g ≡ true → IsAccounted g
    → IsAccounted (appending (BarrierItem (last_epoch (primary_connection g).stream)) g)
account-parting g over accounted = accounted-appending g (appending (BarrierItem (last_epoch (primary_connection g).stream)) g)
    (BarrierItem (last_epoch (primary_connection g).stream)) (λ block unmarked. touches-nothing 0 block) accounted (known-parting g over accounted.known)
    (established-parts (primary_connection g) (over-standing g over)).1 refl refl refl refl refl refl (λ faithful. faithful)

account-ending : (g : PrimaryHistory) → resync_is_over g ≡ true → IsAccounted g → IsAccounted (ending_resync g)
account-ending g over accounted =
    accounted-appending g (ending_resync g) (UuidsItem (sync_end g.tuple)) (λ block unmarked. touches-nothing 0 block) accounted
    (known-ending g over accounted.known) (runs-begun g over) refl refl refl refl refl refl (λ faithful. faithful)

account-following : (h : PrimaryHistory) → IsAccounted h → IsAccounted (follows h).history
account-following = following-from IsAccounted IsAccounted IsAccounted account-completions account-parting (λ g on a. a) account-ending (λ g a. a)

-- Effects.
account-opens : (h : PrimaryHistory) (sync loss : ℕ) → (primary_connection h).closed ≡ true → are_fresh sync loss (known_tuples h) ≡ true → IsAccounted h
    → IsAccounted (opened h sync loss)
account-opens h sync loss closed fresh accounted = accounted-carries h (opened h sync loss) accounted
    (known-kept.opens h sync loss closed fresh accounted.known) (carries-open h sync loss) (keeps-writes h.writes).back (keeps-open h sync loss) refl refl refl
    (λ none. refl) (λ block unmarked. unmarked)
    (λ block unmarked. latest-opened h.connections _ block refl)

account-writes : (h : PrimaryHistory) (number : ℕ) → is_unfinished h number ≡ true → IsAccounted h → IsAccounted (with_outcome number OnDisk h)
account-writes h number waits accounted =
    accounted-still h (with_outcome number OnDisk h) accounted (known-kept.writes h number waits accounted.known) refl
    (keeps-outcome number OnDisk h.writes refl) refl refl refl (λ none. refl) (λ block unmarked. unmarked) (λ faithful. faithful)

account-faults : (h : PrimaryHistory) (number : ℕ) (offsets : List ℕ) → is_unfinished h number ≡ true → IsAccounted h → IsAccounted (faulted number offsets h)
account-faults h number offsets waits accounted = go (accepted_at h number) (known-kept.faults h number offsets waits accounted.known)
  where
    go : (v : Option Accepted) → IsKnown
        (faulted_by v number offsets h)
        → IsAccounted (faulted_by v number offsets h)
    go None known = accounted
    go (Some failed) known = accounted-still h
        (with_outcome number (Failed (within (length failed.write.contents) offsets)) (record h { marks = marking failed.write h.marks })) accounted known refl
        (keeps-outcome number (Failed (within (length failed.write.contents) offsets)) h.writes refl) refl refl refl (λ none. refl)
        (λ block unmarked. (unmarked-by failed.write h.marks block unmarked).0) (λ faithful. faithful)

account-change : (h later : PrimaryHistory) (f : PrimaryConnection → PrimaryConnection) → IsAccounted h → IsKnown later
    → later.connections ≡ change_last f h.connections
    → KeepsEnd (primary_connection h) (f (primary_connection h))
    → (f (primary_connection h)).begun ≡ (primary_connection h).begun → (f (primary_connection h)).stream ≡ (primary_connection h).stream
    → later.writes ≡ h.writes → later.settings ≡ h.settings → later.opening_marks ≡ h.opening_marks → later.opening_tuple ≡ h.opening_tuple
    → later.tuple ≡ h.tuple → later.marks ≡ h.marks → (IsTrue later.faithful → IsTrue h.faithful) → IsAccounted later
account-change h later f accounted known connections keeps begun stream writes settings opening_marks opening_tuple tuple marks falls =
    accounted-change h later f accounted known connections (subst (KeepsWrites h.writes) (sym writes) (keeps-writes h.writes)) keeps begun stream settings
    opening_marks opening_tuple (λ none. tuple)
    (λ block unmarked. ap (λ (m : ℕ → Bool). m block) (sym marks) ∙ unmarked) falls

account-frame : (h : PrimaryHistory) (frame : Received) → (primary_connection h).closed ≡ false → IsKnown (with_primary_connection (with_frame frame) h)
    → IsAccounted h
    → IsAccounted (with_primary_connection (with_frame frame) h)
account-frame h frame standing known accounted =
    account-change h (with_primary_connection (with_frame frame) h) (with_frame frame) accounted known refl
    (keeps-taken (primary_connection h) frame (open-plain h accounted.known.tracked.homes standing)) refl refl refl refl refl refl refl refl (λ faithful. faithful)

account-resyncs : (h : PrimaryHistory) (block : ℕ) (read : Option (List ℕ)) → resync_runs (primary_connection h) ≡ true → nat_lt 0 (length (under_way (primary_connection h))) ≡ false
    → free_block h ≡ Some block → IsAccounted h
    → IsAccounted (copying read block h)
account-resyncs h block read runs alone is accounted = accounted-appending h (copying read block h)
    (ResyncItem block (given read h block))
    (λ other unmarked. elim (cases_Bool (touches (ResyncItem block (given read h block)) other)) [
      | inr outside ↦ outside
      | inl inside ↦ absurd (
          let parts = and_parts (nat_le block other) (nat_lt other (block + 1)) inside in
          let from : block ≤ other = leb-true block other parts.0 in
          let before : other < block + 1 = ltb-true other (block + 1) parts.1 in
          let same : block ≡ other = omega arith in
          both_ways (h.marks other) unmarked (subst (λ (b : ℕ). h.marks b ≡ true) same (free-found h block is).marked))
    ]) accounted (known-kept.resyncs h block read tt runs alone is accounted.known)
    (established-parts (primary_connection h) (and_parts (is_established (primary_connection h)) (in_resync (primary_connection h).stream) runs).0).1 refl refl
    refl refl refl refl (λ faithful. (and_parts (is_none read) h.faithful faithful).1)

-- A block of a resync is acknowledged: it was under way, so it is the last item there, and sure now.
account-clears : (h : PrimaryHistory) (ack : Acknowledged) → (primary_connection h).closed ≡ false → (primary_connection h).begun ≡ true
    → MayAcknowledge h is_resync was_resynced ack
    → IsAccounted h
    → IsAccounted (record (with_primary_connection (with_frame (Ok (RsWriteAckFrame ack))) h) { marks = clearing ack.first h.marks })
account-clears h ack standing begun may accounted =
    let later : PrimaryHistory = record (with_primary_connection (with_frame (Ok (RsWriteAckFrame ack))) h) { marks = clearing ack.first h.marks } in
    let known : IsKnown later = known-kept.clears h ack standing begun may accounted.known in
    let keeps = keeps-taken (primary_connection h) (Ok (RsWriteAckFrame ack)) (open-plain h accounted.known.tracked.homes standing) in
    let carries : Carries h later = carries-change h later (with_frame (Ok (RsWriteAckFrame ack))) refl (keeps-writes h.writes).forward keeps (λ faithful. faithful) in
    let last : (block : ℕ) → latest later.connections block ≡ latest h.connections block = λ block. latest-same-last (no_primary_connection h.tuple)
    (with_frame (Ok (RsWriteAckFrame ack))) h.connections block refl in
    let named = named-item h ack standing begun may in
    let way = accounted.known.tracked.under_way ack.place ack.first named.0 named.1 in
    let elsewhere : (block : ℕ) → later.marks block ≡ false
    → (h.marks block ≡ false) ⊎ (block ≡ ack.first) = λ block unmarked. elim (cases_Bool (h.marks block)) [
      | inr clean ↦ inl clean
      | inl marked ↦ inr (eqb-true block ack.first (not-false (block == ack.first) (subst (λ m. (m && not (block == ack.first)) ≡ false) marked unmarked)))
    ] in
    let free : (block : ℕ) → later.marks block ≡ false → latest h.connections block ≡ None
    → h.marks block ≡ false = λ block unmarked none. elim (elsewhere block unmarked) [
      | inl clean ↦ clean
      | inr same ↦ absurd (let some : latest h.connections block ≡ Some
          (record { connection = last_index h.connections; place = ack.place; item = ResyncItem ack.first named.0 }) =
          subst (λ (n : ℕ). latest h.connections n ≡ Some
          (record { connection = last_index h.connections; place = ack.place; item = ResyncItem ack.first named.0 })) (sym same) way in cc (some, none))
    ] in
    record {
      known = known;
      waiting = λ i block b at alone waits covered.
          let before = waiting-carries h later accounted carries (keeps-writes h.writes).back i block b at alone waits covered in
          elim (cases_Bool (later.marks block)) [
            | inl marked ↦ marked
            | inr unmarked ↦ absurd (elim (elsewhere block unmarked) [
              | inl clean ↦ both_ways (h.marks block) clean before.4
              | inr same ↦
                  let a : Accepted = before.0 in
                  let uncovered = (accounted.known.tracked.copied ack.place ack.first named.0
                  (under-way-copied h ack.place ack.first named.0 accounted.known.tracked named.1)).1 i a before.1 before.3 in
                  both_ways (covers b.write block)
                  (subst (λ (w : Write). covers w block ≡ false) (sym before.2) (subst (λ (n : ℕ). covers a.write n ≡ false) (sym same) uncovered)) covered
            ])
          ];
      settled = λ block touch unmarked is.
          let was : latest h.connections block ≡ Some touch = sym (last block) ∙ is in
          elim (elsewhere block unmarked) [
            | inl clean ↦ settled-carries h later block touch accounted carries (latest-at h.connections block touch was) clean was is
            | inr same ↦ inl (
                let at : slice_get later.connections (last_index h.connections) ≡ Some (with_frame (Ok (RsWriteAckFrame ack)) (primary_connection h)) =
                get-last-changed (with_frame (Ok (RsWriteAckFrame ack))) (no_primary_connection h.tuple) h.connections (primary_connection h)
                (open-at h standing) refl in
                let one : touch ≡ record { connection = last_index h.connections; place = ack.place; item = ResyncItem ack.first named.0 } = same-some (sym was
                ∙ subst (λ (n : ℕ). latest h.connections n ≡ Some
                (record { connection = last_index h.connections; place = ack.place; item = ResyncItem ack.first named.0 })) (sym same) way) in
                let sure : is_sure (with_frame (Ok (RsWriteAckFrame ack)) (primary_connection h)) touch.place touch.item ≡ true =
                subst (λ (t : Touch). is_sure (with_frame (Ok (RsWriteAckFrame ack)) (primary_connection h)) t.place t.item ≡ true) (sym one)
                (resynced-now h ack named.0 (open-plain h accounted.known.tracked.homes standing) named.2) in
                sure-last later.faithful later.connections block touch (with_frame (Ok (RsWriteAckFrame ack)) (primary_connection h)) is
                (subst (λ (t : Touch). slice_get later.connections t.connection ≡ Some (with_frame (Ok (RsWriteAckFrame ack)) (primary_connection h)))
                (sym one) at)
                sure)
          ];
      untouched = λ block inside unmarked none. accounted.untouched block inside (free block unmarked (sym (last block) ∙ none)) (sym (last block) ∙ none);
      began = elim accounted.began [
        | inl none ↦ absurd (both_ways (primary_connection h).begun (none.none (length h.connections - 1) (primary_connection h) (begun-at h begun)) begun)
        | inr first ↦ inr (
          first.0,
          first-carries h later first.0 (begun-change h later (with_frame (Ok (RsWriteAckFrame ack))) refl refl keeps.taken) refl first.1,
          λ full block inside unmarked none. first.2 full block inside (free block unmarked (sym (last block) ∙ none)) (sym (last block) ∙ none),
        )
      ];
    }

-- Every move keeps it.
pub accounted-kept : IsKeptByMoves IsAccounted IsAccounted
accounted-kept = record {
  following = account-following;
  opens = account-opens;
  submits = λ h first contents may a. account-submits h first contents a (known-kept.submits h first contents may a.known);
  writes = account-writes;
  faults = account-faults;
  sends = λ h standing due a. account-change h (with_primary_connection pushing h) pushing a (known-kept.sends h standing due a.known) refl
      (keeps-pushed (primary_connection h)) refl refl refl refl refl refl refl refl (λ faithful. faithful);
  greets = λ h frame standing new met a. account-frame h frame standing (known-kept.greets h frame standing new met a.known) a;
  begins = λ h peer decided standing new late is fresh a. account-begins h peer decided standing new is a
      (known-kept.begins h peer decided standing new late is fresh a.known);
  receives = λ h ack standing begun may a. account-frame h (Ok (RecvAckFrame ack)) standing (known-kept.receives h ack standing begun may a.known) a;
  applies = λ h ack standing begun may a. account-frame h (Ok (WriteAckFrame ack)) standing (known-kept.applies h ack standing begun may a.known) a;
  clears = account-clears;
  confirms = λ h number size standing begun turn a. account-frame h (Ok (BarrierAckFrame number size)) standing
      (known-kept.confirms h number size standing begun turn a.known) a;
  refuses = λ h frame peer standing a. account-refuses h frame peer standing a (known-kept.refuses h frame peer standing a.known);
  resyncs = λ h block read may runs alone is a. account-resyncs h block read runs alone is a;
  closes = λ h standing a. account-closes h standing a (known-kept.closes h standing a.known);
  receipts = λ h number a. record {
    known = known-kept.receipts h number a.known;
    waiting = a.waiting;
    settled = a.settled;
    untouched = a.untouched;
    began = elim a.began [
      | inl none ↦ inl (record { none = none.none; tuple = none.tuple })
      | inr first ↦ inr (
        first.0,
        record {
          connection = first.1.connection;
          end = first.1.end;
          at = first.1.at;
          begun = first.1.begun;
          earlier = first.1.earlier;
          peer = first.1.peer;
          n = first.1.n;
          taken = first.1.taken;
          decides = first.1.decides;
        },
        first.2,
      )
    ];
  };
}

-- it holds at the opening
pub accounted-opening : (settings : Settings) (disk : BlockMap) (tuple : Tuple) (marks : ℕ → Bool) → IsKnown (primary_opening settings disk tuple marks)
    → IsAccounted (primary_opening settings disk tuple marks)
accounted-opening settings disk tuple marks known = record {
  known = known;
  waiting = λ i block a at alone waits covered. absurd (cc);
  settled = λ block touch unmarked is. absurd (cc);
  untouched = λ block inside unmarked none. unmarked;
  began = inl (record { none = λ k c at. absurd (cc); tuple = refl });
}
