-- What holds of a secondary's connection, whatever frames it takes: the part applied is closed at an epoch.
use Rattle.std.proofs.Common.{ℕ, ◌≡◌, ◌≤◌, ◌<◌, ◌⊎◌, inl, inr, true, false, not, ◌&&◌, List, [], ◌++◌, length, take, drop, Some}
use Rattle.std.proofs.Common.{slice_get, refl, sym, ◌∙◌, ap, subst, arith, ◌==◌}
use Rattle.std.specs.List.{list_any}
use Rattle.std.proofs.lemmas.Bool.{leb-true, or_cases, and_parts, and_from, and_cases, lt-ltb, cases_Bool, both_ways, not-true, not-false, not_from_false}
use Rattle.std.proofs.lemmas.Bool.{cases_lt}
use Rattle.std.proofs.lemmas.List.{take-append-drop, length-append}
use Rattle.std.proofs.lemmas.Option.{slice_get_within}
use Rattle.model.specs.Stream.{StreamItem, Part, is_in, is_whole, contents_of, has_blocks, epoch_of, last_epoch, barriers_in}
use Rattle.model.specs.Secondary.{SecondaryConnection, items_taken, is_pending}
use Rattle.model.specs.SecondarySteps.{offsets_at, is_pending_at, has_earlier, failing}
use Rattle.laws.proofs.Rules.DiskFaults.{failing-pending}
use Rattle.laws.proofs.Rules.DiskTurns.{none-earlier}
use Rattle.laws.proofs.Streams.Places.{some-at, At, get-grows, epoch-grows, epoch-behind, last-grows, barriers-append}
use Rattle.laws.proofs.Streams.Parts.{in-append, in-grows, in-offsets, whole-has, whole-from, whole-grows, in-offsets-listed}
use Rattle.laws.proofs.Lists.Elements.{get-left}

-- The part applied is closed at `epoch` and names blocks of what was taken; once an item failed or was dropped the end is closed,
-- and nothing of a later epoch is pending.
pub record IsSound (d : SecondaryConnection) : Type 0 where
  pub epoch : ℕ
  pub upto : epoch ≤ last_epoch (items_taken d)
  pub before : (place offset : ℕ) (item : StreamItem) → slice_get (items_taken d) place ≡ Some item → epoch_of (items_taken d) place < epoch
      → offset < length (contents_of item) → is_in d.applied place offset ≡ true
  pub after : (place offset : ℕ) → is_in d.applied place offset ≡ true → epoch_of (items_taken d) place ≤ epoch
  pub within : (place offset : ℕ) → is_in d.applied place offset ≡ true → place < length (items_taken d)
  pub named : (place offset : ℕ) → is_in d.applied place offset ≡ true
      → (item : StreamItem) × (slice_get (items_taken d) place ≡ Some item) × (offset < length (contents_of item))
  pub stopped : (d.gone ≡ []) ⊎ ((d.closed ≡ true) × ((place : ℕ) (item : StreamItem) → slice_get (items_taken d) place ≡ Some item
      → is_pending d (place, item) ≡ true → epoch_of (items_taken d) place ≤ epoch))

-- It depends on what was taken, applied and given up, and on whether the end is closed. Taking more keeps it while the
-- end is open.
pub sound-taking : (d e : SecondaryConnection) (more : List StreamItem) → IsSound d → d.closed ≡ false → items_taken e ≡ items_taken d ++ more
    → e.applied ≡ d.applied
    → e.gone ≡ d.gone → IsSound e
sound-taking d e more s standing items applied gone =
    let old : List StreamItem = items_taken d in
    let stays : d.gone ≡ [] = elim s.stopped [ inl none ↦ none | inr shut ↦ absurd (let t = shut.0 in cc (standing, t)) ] in
    record {
      epoch = s.epoch;
      upto = rw items (let grows = last-grows old more in let here = s.upto in omega arith);
      before = λ place offset item at early less.
          let at' : slice_get (old ++ more) place ≡ Some item = rw (← items) at in
          let early' : epoch_of (old ++ more) place < s.epoch = rw (← items) early in
          elim (cases_lt place (length old)) [
            | inl inside ↦
                let there : slice_get old place ≡ Some item = sym (get-grows old more place inside) ∙ at' in
                let same = epoch-grows old more place (omega arith) in
                rw applied (s.before place offset item there (omega arith) less)
            | inr behind ↦ absurd (let later = epoch-behind old more place behind in let top = s.upto in omega arith)
          ];
      after = λ place offset h.
          let h' : is_in d.applied place offset ≡ true = rw (← applied) h in
          let inside = s.within place offset h' in
          let same = epoch-grows old more place (omega arith) in
          let here = s.after place offset h' in
          rw items (omega arith);
      within = λ place offset h.
          let inside = s.within place offset (rw (← applied) h) in
          rw (items, length-append old more) (omega arith);
      named = λ place offset h.
          let was = s.named place offset (rw (← applied) h) in
          (was.0, rw items (get-left old more place was.0 was.1), was.2);
      stopped = inl (gone ∙ stays);
    }

-- what else changes does not matter, and closing keeps it
pub sound-same : (d e : SecondaryConnection) → IsSound d → items_taken e ≡ items_taken d → e.applied ≡ d.applied → e.gone ≡ d.gone
    → (d.closed ≡ true → e.closed ≡ true)
    → IsSound e
sound-same d e s items applied gone closed = record {
  epoch = s.epoch;
  upto = rw items s.upto;
  before = λ place offset item at early less. rw applied (s.before place offset item (rw (← items) at) (rw (← items) early) less);
  after = λ place offset h. rw items (s.after place offset (rw (← applied) h));
  within = λ place offset h. rw items (s.within place offset (rw (← applied) h));
  named = λ place offset h. let was = s.named place offset (rw (← applied) h) in (was.0, rw items was.1, was.2);
  stopped = elim s.stopped [
    | inl none ↦ inl (gone ∙ none)
    | inr shut ↦ inr (
      closed shut.0,
      λ place item at waits.
          let waits' : is_pending d (place, item) ≡ true = rw (← applied, ← gone) waits in
          rw items (shut.1 place item (rw (← items) at) waits'),
    )
  ];
}

-- Starting an item: what is known of its place and its epoch.
pub record Started (d : SecondaryConnection) (place : ℕ) (s : IsSound d) : Type 0 where
  pub item : StreamItem
  pub there : slice_get (items_taken d) place ≡ Some item
  pub inside : place < length (items_taken d)
  pub waits : is_pending d (place, item) ≡ true
  -- its epoch is not before the one that the part is closed at, and after an item failed it is that one
  pub not_before : s.epoch ≤ epoch_of (items_taken d) place
  pub not_after : (d.gone ≡ []) ⊎ (epoch_of (items_taken d) place ≡ s.epoch)
  -- everything of earlier epochs is applied
  pub earlier : (other offset : ℕ) (old : StreamItem) → slice_get (items_taken d) other ≡ Some old
      → epoch_of (items_taken d) other < epoch_of (items_taken d) place
      → offset < length (contents_of old) → is_in d.applied other offset ≡ true

-- the parts of being pending
waits-parts : (d : SecondaryConnection) (place : ℕ) (item : StreamItem) → is_pending d (place, item) ≡ true
    → (has_blocks item ≡ true) × (is_whole d.applied place item ≡ false) × (list_any (λ (p : ℕ). p == place) d.gone ≡ false)
waits-parts d place item h =
    let a = and_parts (has_blocks item && not (is_whole d.applied place item)) (not (list_any (λ (p : ℕ). p == place) d.gone)) h in
    let b = and_parts (has_blocks item) (not (is_whole d.applied place item)) a.0 in
    (b.0, not-true (is_whole d.applied place item) b.1, not-true (list_any (λ (p : ℕ). p == place) d.gone) a.1)

-- a pending item whose epoch has its turn may be applied
pub starting : (d : SecondaryConnection) (place : ℕ) (s : IsSound d) → is_pending_at d place ≡ true → has_earlier d place ≡ false → Started d place s
starting d place s waiting none =
    let items : List StreamItem = items_taken d in
    let found : At (is_pending d) 0 items place = some-at (is_pending d) 0 items place waiting in
    let is : found.offset ≡ place = omega (arith, found.is) in
    let there : slice_get items place ≡ Some found.item = subst (λ n. slice_get items n ≡ Some found.item) is found.there in
    let waits : is_pending d (place, found.item) ≡ true = found.passes in
    let parts = waits-parts d place found.item waits in
    let not_before : s.epoch ≤ epoch_of items place = elim (cases_lt (epoch_of items place) s.epoch) [
      | inl early ↦ absurd (both_ways (is_whole d.applied place found.item) parts.1
          (whole-from d.applied place found.item (λ offset less. s.before place offset found.item there early less)))
      | inr late ↦ late
    ] in
    let not_after : (d.gone ≡ []) ⊎ (epoch_of items place ≡ s.epoch) = elim s.stopped [
      | inl free ↦ inl free
      | inr shut ↦ inr (let top = shut.1 place found.item there waits in omega arith)
    ] in
    record {
      item = found.item;
      there = there;
      inside = slice_get_within items place found.item there;
      waits = waits;
      not_before = not_before;
      not_after = not_after;
      earlier = λ other offset old at early less. elim not_after [
        | inr same ↦ s.before other offset old at (omega arith) less
        | inl free ↦ elim (cases_Bool (is_pending d (other, old))) [
          | inl also ↦ absurd (let late = none-earlier d place other old none at also in omega arith)
          | inr past ↦ whole-has d.applied other offset old (applied-already d other old free past (some-blocks old offset less)) less
        ]
      ];
    }
  where
    -- an item with an offset has blocks
    some-blocks : (item : StreamItem) (offset : ℕ) → offset < length (contents_of item) → has_blocks item ≡ true
    some-blocks item offset less = lt-ltb 0 (length (contents_of item)) (omega arith)

    -- what is not pending, with nothing given up, is applied
    applied-already : (d : SecondaryConnection) (place : ℕ) (item : StreamItem) → d.gone ≡ [] → is_pending d (place, item) ≡ false → has_blocks item ≡ true
        → is_whole d.applied place item ≡ true
    applied-already d place item free past blocks =
        let none : list_any (λ (p : ℕ). p == place) d.gone ≡ false = rw free refl in
        elim (and_cases (has_blocks item && not (is_whole d.applied place item)) (not (list_any (λ (p : ℕ). p == place) d.gone)) past) [
          | inl a ↦ elim (and_cases (has_blocks item) (not (is_whole d.applied place item)) a) [
            | inl b ↦ absurd (both_ways (has_blocks item) b blocks)
            | inr b ↦ not-false (is_whole d.applied place item) b
          ]
          | inr a ↦ absurd (both_ways (not (list_any (λ (p : ℕ). p == place) d.gone)) a (not_from_false (list_any (λ (p : ℕ). p == place) d.gone) none))
        ]

-- what is pending after some blocks were applied was so before
pub pending-before : (d e : SecondaryConnection) (more : Part) (place : ℕ) (item : StreamItem) → e.applied ≡ d.applied ++ more → e.gone ≡ d.gone
    → is_pending e (place, item) ≡ true → is_pending d (place, item) ≡ true
pending-before d e more place item applied gone waits =
    let parts = waits-parts e place item waits in
    let unfinished : is_whole d.applied place item ≡ false = elim (cases_Bool (is_whole d.applied place item)) [
      | inl whole ↦ absurd (both_ways (is_whole e.applied place item) parts.1 (rw applied (whole-grows d.applied more place item whole)))
      | inr part ↦ part
    ] in
    let there : list_any (λ (p : ℕ). p == place) d.gone ≡ false = rw (← gone) parts.2 in
    and_from (has_blocks item && not (is_whole d.applied place item)) (not (list_any (λ (p : ℕ). p == place) d.gone))
    (and_from (has_blocks item) (not (is_whole d.applied place item)) parts.0 (not_from_false (is_whole d.applied place item) unfinished))
    (not_from_false (list_any (λ (p : ℕ). p == place) d.gone) there)

-- Applying some blocks of an item that may be started keeps the part closed, at that item's epoch.
pub sound-applying : (d e : SecondaryConnection) (place : ℕ) (offsets : List ℕ) (s : IsSound d) → (start : Started d place s)
    → ((n offset : ℕ) → slice_get offsets n ≡ Some offset → offset < length (contents_of start.item))
    → items_taken e ≡ items_taken d → e.applied ≡ d.applied ++ offsets_at place offsets
    → ((e.gone ≡ d.gone) × (e.closed ≡ d.closed)) ⊎ ((e.closed ≡ true) × ((other : ℕ) (item : StreamItem) → slice_get (items_taken d) other ≡ Some item
    → is_pending e (other, item) ≡ true → epoch_of (items_taken d) other ≤ epoch_of (items_taken d) place))
    → IsSound e
sound-applying d e place offsets s start few items applied rest =
    let old : List StreamItem = items_taken d in
    let here : ℕ = epoch_of old place in
    let is_new : (other offset : ℕ) → is_in e.applied other offset ≡ true → (is_in d.applied other offset ≡ true) ⊎ (place ≡ other) =
    λ other offset h. elim (or_cases (is_in d.applied other offset) (is_in (offsets_at place offsets) other offset)
    (sym (in-append d.applied (offsets_at place offsets) other offset) ∙ rw (← applied) h)) [
      | inl before ↦ inl before
      | inr added ↦ inr (in-offsets place offsets other offset added)
    ] in
    record {
      epoch = here;
      upto = rw items (place-upto old place start.inside);
      before = λ other offset item at early less.
          let same : epoch_of (items_taken e) other ≡ epoch_of old other = ap (λ (l : List StreamItem). epoch_of l other) items in
          rw applied (in-grows d.applied (offsets_at place offsets) other offset (start.earlier other offset item (rw (← items) at) (omega arith) less));
      after = λ other offset h. rw items (elim (is_new other offset h) [
        | inl before ↦ let top = s.after other offset before in let low = start.not_before in omega arith
        | inr same ↦ let e : epoch_of old place ≡ epoch_of old other = ap (epoch_of old) same in omega arith
      ]);
      within = λ other offset h. rw items (elim (is_new other offset h) [
        | inl before ↦ s.within other offset before
        | inr same ↦ let inside = start.inside in omega arith
      ]);
      named = λ other offset h. rw items
          (elim (or_cases (is_in d.applied other offset) (is_in (offsets_at place offsets) other offset)
          (sym (in-append d.applied (offsets_at place offsets) other offset) ∙ rw (← applied) h)) [
            | inl before ↦ s.named other offset before
            | inr added ↦
                let listed = in-offsets-listed place offsets other offset added in (
                  start.item,
                  subst (λ n. slice_get old n ≡ Some start.item) (in-offsets place offsets other offset added) start.there,
                  few listed.0 offset listed.1,
                )
          ]);
      stopped = elim rest [
        | inl kept ↦ elim s.stopped [
          | inl free ↦ inl (kept.0 ∙ free)
          | inr shut ↦ inr (
            kept.1 ∙ shut.0,
            λ other item at waits.
                let at' : slice_get old other ≡ Some item = rw (← items) at in
                let waited : is_pending d (other, item) ≡ true = pending-before d e (offsets_at place offsets) other item applied kept.0 waits in
                let top = shut.1 other item at' waited in
                let low = start.not_before in
                rw items (omega arith),
          )
        ]
        | inr shut ↦ inr (shut.0, λ other item at waits. rw items (shut.1 other item (rw (← items) at) waits))
      ];
    }
  where
    -- a place of a stream is in no later epoch than its last
    place-upto : (items : List StreamItem) (place : ℕ) → place < length items → epoch_of items place ≤ last_epoch items
    place-upto items place inside =
        let whole : take place items ++ drop place items ≡ items = take-append-drop place items in
        let split = barriers-append (take place items) (drop place items) in
        let all : barriers_in (take place items ++ drop place items) ≡ barriers_in items = ap barriers_in whole in
        omega arith

-- After a fault, what is still pending is of no later epoch than the item that failed: the others were dropped.
pub dropped : (d : SecondaryConnection) (place : ℕ) (offsets : List ℕ) (other : ℕ) (item : StreamItem) → slice_get (items_taken d) other ≡ Some item
    → is_pending (failing place offsets d) (other, item) ≡ true
    → epoch_of (items_taken d) other ≤ epoch_of (items_taken d) place
dropped d place offsets other item at waits = leb-true _ _ (and_parts (is_pending d (other, item) && not (other == place)) _
    (sym (failing-pending d place offsets other item at) ∙ waits)).1
