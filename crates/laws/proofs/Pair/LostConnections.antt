-- What a primary does that refuses a frame: the marks, the tuple and the completions of the close in the same step.
use Rattle.std.proofs.Common.{ℕ, ◌≡◌, ◌-◌, ◌==◌, Bool, true, false, not, ◌&&◌, List, [], ◌∷◌, ◌++◌, length, map, Option, Some, None, slice_get}
use Rattle.std.proofs.Common.{refl, sym, ◌∙◌, ap, ◌⊎◌, inl, inr}
use Rattle.std.specs.Prelude.{if◌then◌else◌, option_map}
use Rattle.std.specs.List.{list_any}
use Rattle.std.proofs.lemmas.Bool.{both_ways, and_from, or_left, or_right, eq-eqb}
use Rattle.std.proofs.lemmas.List.Elements.{filter_agree}
use Rattle.std.proofs.lemmas.List.Folds.{list_any-append}
use Rattle.std.proofs.lemmas.Option.{slice_get-map}
use Rattle.blocks.specs.Positions.{StreamPosition}
use Rattle.model.specs.Stream.{BarrierItem, epoch_of, last_epoch}
use Rattle.model.specs.Frames.{Received, counting}
use Rattle.model.specs.Identifiers.{lost}
use Rattle.model.specs.Marks.{marking_unreleased}
use Rattle.model.specs.Primary.{LocalOutcome, Waiting, OnDisk, Failed, Accepted, Completion, PrimaryHistory, PrimaryConnection, no_primary_connection}
use Rattle.model.specs.Primary.{primary_connection, last_of, last_index}
use Rattle.model.specs.Primary.{change_last, is_alone, is_answered, is_barrier_ack, is_completed, is_confirmed, is_failed, is_on_disk}
use Rattle.model.specs.Primary.{is_open, is_released, completes, unreleased, accepted_frames}
use Rattle.model.specs.PrimarySteps.{follows, closing, newly_completed, completion_of, with_completions, appending, ending_resync, epoch_is_over}
use Rattle.model.specs.PrimarySteps.{resync_is_over}
use Rattle.model.specs.Acknowledgements.{ack_in}
use Rattle.laws.proofs.Rules.Completions.{completes-by}
use Rattle.laws.proofs.Rules.CloseMarks.{close-same}
use Rattle.laws.proofs.Rules.EpochEnds.{over-standing}
use Rattle.laws.specs.Statements.{with_refused, RefusedFramesLoseTheConnection}
use Rattle.laws.proofs.Lists.Last.{last-at, last-change, length-change}
use Rattle.laws.proofs.Lists.Picks.{any-pick, filtered-pick}
use Rattle.laws.proofs.Primary.Moves.{after_barrier, after_resync, follows-history, following-from}
use Rattle.laws.proofs.Primary.StaysClosed.{open-established}
use Rattle.laws.proofs.Rules.ResyncEnds.{over-established}
use Rattle.laws.proofs.Pair.RefusedFrames.{close-open, refused-open, others-count, had-open, refused_frames_close_the_primary}
use Rattle.laws.proofs.Rules.RefusedFrames.{refusing_frame}
use Rattle.laws.proofs.Rules.Releases.{released-same}
use Rattle.laws.proofs.Primary.WriteConnections.{alone-seen, confirmed-seen}

-- The frame itself releases nothing.

-- the same frames count
frames-same : (frame : Received) (c : PrimaryConnection) → c.refused ≡ false → accepted_frames (refusing_frame frame c) ≡ accepted_frames c
frames-same frame c unrefused = others-count frame c.taken ∙ sym (ap (λ b. counting b c.taken) unrefused)

-- the same epochs are acknowledged
confirmed-same : (frame : Received) (p : PrimaryHistory) → (primary_connection p).refused ≡ false → (a : Accepted)
    → is_confirmed (with_refused frame p) a ≡ is_confirmed p a
confirmed-same frame p unrefused = confirmed-seen p (with_refused frame p) (refusing_frame frame) refl
    (λ place. ap (λ (frames : List Received). list_any (is_barrier_ack (epoch_of (primary_connection p).stream place)) frames)
    (frames-same frame (primary_connection p) unrefused))

-- the same writes are without a connection
alone-same : (frame : Received) (p : PrimaryHistory) (a : Accepted) → is_alone (with_refused frame p) a ≡ is_alone p a
alone-same frame p = alone-seen p (with_refused frame p) (refusing_frame frame) refl refl

-- the same writes are unreleased
unreleased-same : (frame : Received) (p : PrimaryHistory) → (primary_connection p).refused ≡ false → unreleased (with_refused frame p) ≡ unreleased p
unreleased-same frame p unrefused =
    filter_agree (λ a. not (is_released (with_refused frame p) a)) (λ a. not (is_released p a))
    (λ a. ap not (released-same p (with_refused frame p) a (confirmed-same frame p unrefused a) (alone-same frame p a))) p.writes

-- The close.

-- the marks and the tuple after it, on a closed end
record IsLost (p g : PrimaryHistory) : Type 0 where
  marks : (block : ℕ) → g.marks block ≡ marking_unreleased p block
  tuple : g.tuple ≡ (if (primary_connection p).begun then lost (primary_connection p).loss p.tuple else p.tuple)
  closed : (primary_connection g).closed ≡ true

-- what follows leaves them: no stream stands
lost-follows : (p h : PrimaryHistory) → IsLost p h → IsLost p (follows h).history
lost-follows p = following-from (IsLost p) (IsLost p) (IsLost p) (λ h is. record { marks = is.marks; tuple = is.tuple; closed = is.closed })
    (λ g over is. absurd (both_ways (primary_connection g).closed (open-established (primary_connection g) (over-standing g over)) is.closed)) (λ g on is. is)
    (λ g over is. absurd (both_ways (primary_connection g).closed (open-established (primary_connection g) (over-established g over)) is.closed)) (λ g is. is)

-- the last end with the frame refused, where there is one
refused-last : (frame : Received) (p : PrimaryHistory) → (primary_connection p).closed ≡ false
    → primary_connection (with_refused frame p) ≡ refusing_frame frame (primary_connection p)
refused-last frame p standing = go (last-change (refusing_frame frame) (no_primary_connection p.tuple) (no_primary_connection p.tuple) p.connections)
  where
    go : (p.connections ≡ []) ⊎ (last_of (no_primary_connection p.tuple) (change_last (refusing_frame frame) p.connections) ≡ refusing_frame frame
        (primary_connection p))
        → last_of (no_primary_connection p.tuple) (change_last (refusing_frame frame) p.connections) ≡ refusing_frame frame (primary_connection p)
    go (inl empty) = absurd (both_ways (primary_connection p).closed standing
        (ap (λ (cs : List PrimaryConnection). (last_of (no_primary_connection p.tuple) cs).closed) empty))
    go (inr is) = is

-- the close of that end
closing-lost : (frame : Received) (p : PrimaryHistory) → (primary_connection p).closed ≡ false → (primary_connection p).refused ≡ false
    → IsLost p (closing (with_refused frame p))
closing-lost frame p standing unrefused = record {
  marks = λ block. close-same p (with_refused frame p) block refl (unreleased-same frame p unrefused);
  tuple = ap (λ (c : PrimaryConnection). if c.begun then lost c.loss p.tuple else p.tuple) (refused-last frame p standing);
  closed = shut (last-change (λ (c : PrimaryConnection). record c { closed = true }) (no_primary_connection p.tuple)
      (no_primary_connection (closing (with_refused frame p)).tuple)
      (with_refused frame p).connections);
}
  where
    shut : ((with_refused frame p).connections ≡ [])
        ⊎ (primary_connection (closing (with_refused frame p)) ≡ record (primary_connection (with_refused frame p)) { closed = true })
        → (primary_connection (closing (with_refused frame p))).closed ≡ true
    shut (inl empty) = ap (λ (cs : List PrimaryConnection).
        (last_of (no_primary_connection (closing (with_refused frame p)).tuple)
        (change_last (λ (c : PrimaryConnection). record c { closed = true }) cs)).closed) empty
    shut (inr is) = ap (λ (c : PrimaryConnection). c.closed) is

-- Completions.

-- what follows completes what is to be completed, and nothing more
follows-journal : (h : PrimaryHistory) → (follows h).history.journal ≡ (with_completions h).journal
follows-journal h = ap (λ (g : PrimaryHistory). g.journal) (follows-history h) ∙ (resynced (after_barrier (with_completions h)) ∙ parted (with_completions h))
  where
    parted : (g : PrimaryHistory) → (after_barrier g).journal ≡ g.journal
    parted g = elim (epoch_is_over g) as
        (λ b. (elim b as (λ _. PrimaryHistory) [ true ↦ appending (BarrierItem (last_epoch (primary_connection g).stream)) g | false ↦ g ]).journal ≡ g.journal)
        [ true ↦ refl | false ↦ refl ]

    resynced : (g : PrimaryHistory) → (after_resync g).journal ≡ g.journal
    resynced g = elim (resync_is_over g) as (λ b. (elim b as (λ _. PrimaryHistory) [ true ↦ ending_resync g | false ↦ g ]).journal ≡ g.journal)
        [ true ↦ refl | false ↦ refl ]

-- a write that the local disk has done did not fail
done-unfailed : (outcome : LocalOutcome) → is_on_disk outcome ≡ true → is_failed outcome ≡ false
done-unfailed Waiting is = refl
done-unfailed OnDisk is = refl
done-unfailed (Failed offsets) is = absurd (cc)

-- a write that the local disk has done, and that has no connection, is completed by the step
completes-alone : (h : PrimaryHistory) (n : ℕ) (a : Accepted) → slice_get h.writes n ≡ Some a → is_on_disk a.outcome ≡ true → is_alone h a ≡ true
    → is_completed (with_completions h) a.write.number ≡ true
completes-alone h n a at is alone = go (is_completed h a.write.number) refl
  where
    named : Completion → Bool
    named entry = entry.write.number == a.write.number

    go : (b : Bool) → is_completed h a.write.number ≡ b → list_any named (h.journal ++ map (completion_of h) (newly_completed h)) ≡ true
    go true was = list_any-append named h.journal (map (completion_of h) (newly_completed h))
        ∙ or_left (list_any named h.journal) (list_any named (map (completion_of h) (newly_completed h))) was
    go false was =
        let opened : is_open h a ≡ true = and_from (not (is_completed h a.write.number)) (not (is_failed a.outcome)) (ap not was)
        (ap not (done-unfailed a.outcome is)) in
        let now : completes h a ≡ true = completes-by h a is (or_right (is_answered h a) (is_alone h a) alone) in
        let there = filtered-pick (λ accepted. is_open h accepted && completes h accepted) h.writes n a at
        (and_from (is_open h a) (completes h a) opened now) in
        let entry : slice_get (map (completion_of h) (newly_completed h)) there.0 ≡ Some (completion_of h a) =
        slice_get-map (completion_of h) (newly_completed h) there.0 ∙ ap (λ (v : Option Accepted). option_map (completion_of h) v) there.1 in
        list_any-append named h.journal (map (completion_of h) (newly_completed h))
        ∙ or_right (list_any named h.journal) (list_any named (map (completion_of h) (newly_completed h)))
        (any-pick named (map (completion_of h) (newly_completed h)) there.0 (completion_of h a) entry (eq-eqb a.write.number a.write.number refl))

-- once the last end is closed its writes have no connection
closing-alone : (h : PrimaryHistory) (a : Accepted) (place : ℕ) → a.home ≡ Some (record { index = last_index h.connections; place = place })
    → is_alone (closing h) a ≡ true
closing-alone h a place home =
    ap (λ (v : Option StreamPosition). elim v as
    (λ _. Bool) [ None ↦ true | Some at ↦ elim (slice_get (closing h).connections at.index) as (λ _. Bool) [ None ↦ true | Some c ↦ c.closed ] ]) home
    ∙ go h.connections
  where
    shut : PrimaryConnection → PrimaryConnection
    shut c = record c { closed = true }

    go : (cs : List PrimaryConnection) → elim (slice_get (change_last shut cs) (length cs - 1)) as (λ _. Bool) [ None ↦ true | Some c ↦ c.closed ] ≡ true
    go [] = refl
    go (c ∷ cs) =
        ap (λ n. elim (slice_get (change_last shut (c ∷ cs)) (n - 1)) as (λ _. Bool) [ None ↦ true | Some c ↦ c.closed ]) (sym (length-change shut (c ∷ cs)))
        ∙ last (last-at c (change_last shut (c ∷ cs))) (last-change shut c c (c ∷ cs))
      where
        last : (change_last shut (c ∷ cs) ≡ [])
            ⊎ (slice_get (change_last shut (c ∷ cs)) (length (change_last shut (c ∷ cs)) - 1) ≡ Some (last_of c (change_last shut (c ∷ cs))))
            → (c ∷ cs ≡ []) ⊎ (last_of c (change_last shut (c ∷ cs)) ≡ shut (last_of c (c ∷ cs)))
            → elim (slice_get (change_last shut (c ∷ cs)) (length (change_last shut (c ∷ cs)) - 1)) as (λ _. Bool) [ None ↦ true | Some c ↦ c.closed ] ≡ true
        last (inl empty) is = ap (λ (l : List PrimaryConnection). elim (slice_get l (length l - 1)) as (λ _. Bool) [ None ↦ true | Some c ↦ c.closed ]) empty
        last (inr there) (inl none) = absurd (cc)
        last (inr there) (inr is) = ap (λ (v : Option PrimaryConnection). elim v as (λ _. Bool) [ None ↦ true | Some c ↦ c.closed ]) there
            ∙ ap (λ (c : PrimaryConnection). c.closed) is

-- A primary that refuses a frame loses its connection.
pub refused_frames_lose_the_connection : RefusedFramesLoseTheConnection
refused_frames_lose_the_connection frame out_of_memory p refusal unrefused is other = record {
  marks = λ block. ap (λ (h : PrimaryHistory). h.marks block) after ∙ after-close.marks block;
  tuple = ap (λ (h : PrimaryHistory). h.tuple) after ∙ after-close.tuple;
  completed = λ n place a at home on_disk.
      ap (λ (h : PrimaryHistory). is_completed h a.write.number) after
      ∙ (ap (λ (journal : List Completion). list_any (λ entry. entry.write.number == a.write.number) journal) (follows-journal (closing (with_refused frame p)))
      ∙ completes-alone (closing (with_refused frame p)) n a at on_disk (closing-alone (with_refused frame p) a place (home
      ∙ ap (λ k. let at : StreamPosition = record { index = k - 1; place = place } in Some at) (sym (length-change (refusing_frame frame) p.connections)))));
}
  where
    standing : (primary_connection p).closed ≡ false
    standing = had-open frame out_of_memory p refusal is other

    after : (ack_in (Some frame) out_of_memory p).1 ≡ (follows (closing (with_refused frame p))).history
    after = refused_frames_close_the_primary frame out_of_memory p refusal is other ∙ close-open (with_refused frame p) (refused-open frame p standing)

    after-close : IsLost p (follows (closing (with_refused frame p))).history
    after-close = lost-follows p (closing (with_refused frame p)) (closing-lost frame p standing unrefused)
