-- The moves that accept a write, do one, begin a stream or read a block of a resync keep the spans; so does every run.
use Rattle.std.proofs.Common.{ℕ, suc, ◌≡◌, inl, inr, Bool, true, false, not, ◌&&◌, ◌==◌, List, [], ◌∷◌, length, take, map, Option, Some, None, slice_get, refl}
use Rattle.std.proofs.Common.{sym, ◌∙◌, ap, subst, arith}
use Rattle.std.specs.Prelude.{if◌then◌else◌}
use Rattle.std.proofs.lemmas.Bool.{both_ways, and_parts, and_cases, not-false, eqb-true}
use Rattle.std.proofs.lemmas.Option.{slice_get-map}
use Rattle.std.proofs.lemmas.List.{take-map}
use Rattle.blocks.specs.declared.settings.Settings.{Settings}
use Rattle.model.specs.Contents.{BlockMap, Layer, Write, block_under, overlay}
use Rattle.model.specs.Stream.{WriteItem, within}
use Rattle.model.specs.Marks.{marking, releasing, is_cleared}
use Rattle.model.specs.Primary.{LocalOutcome, Waiting, OnDisk, Failed, Accepted, PrimaryConnection, PrimaryHistory, primary_connection, change_last, is_waiting}
use Rattle.model.specs.Primary.{is_failed}
use Rattle.model.specs.PrimarySteps.{set_outcome, with_outcome, is_unfinished, accepted_at, faulted, faulted_by}
use Rattle.laws.proofs.Rules.Marking.{unmarked-by}
use Rattle.laws.proofs.Lists.Beginnings.{begins-self}
use Rattle.laws.proofs.Lists.Elements.{same-at}
use Rattle.laws.proofs.Lists.Last.{change-none}
use Rattle.laws.proofs.Lists.Picks.{pick-any, pick-image, pick-found}
use Rattle.laws.proofs.Blocks.Overlays.{overlay-agrees}
use Rattle.laws.proofs.Primary.Homes.{HasHomes, grows-self, outcome-write, outcome-home}
use Rattle.laws.proofs.Primary.LastOpen.{IsLastOpen}
use Rattle.laws.proofs.Releases.Cleared.{IsRelease, release-clears}
use Rattle.laws.proofs.Releases.InOrderMoves.{Ordered, OrderedAfter}
use Rattle.laws.proofs.Accounted.Moves.{first-carries}
use Rattle.laws.proofs.WriteOrder.Layers.{full_layer, writes_over}
use Rattle.laws.proofs.WriteOrder.Spans.{NoneFailed, Passes}
use Rattle.laws.proofs.WriteOrder.SpanMoves.{HasSpans, SameOpening, keeps-quiet, spans-change}
use Rattle.laws.proofs.WriteOrder.SpanKept.{spans-end}

-- The local disk does or fails a write.

-- the layers of the writes do not depend on it
over-outcome : (number : ℕ) (outcome : LocalOutcome) (base : BlockMap) (count block : ℕ) (ws : List Accepted)
    → writes_over base count (map (set_outcome number outcome) ws) block ≡ writes_over base count ws block
over-outcome number outcome base count block ws =
    ap (λ (l : List Accepted). overlay base (map full_layer l) block) (take-map (set_outcome number outcome) count ws)
    ∙ (ap (λ (l : List Layer). overlay base l block) (map-twice (take count ws))
    ∙ overlay-agrees (λ a. full_layer (set_outcome number outcome a)) full_layer base (take count ws) block
    (λ i a at v. ap (λ (w : Write). block_under (record { first = w.first; contents = w.contents; laid = λ offset. true }) block v)
    (outcome-write number outcome a)))
  where
    map-twice : (xs : List Accepted) → map full_layer (map (set_outcome number outcome) xs) ≡ map (λ a. full_layer (set_outcome number outcome a)) xs
    map-twice [] = refl
    map-twice (x ∷ xs) = ap (λ (l : List Layer). full_layer (set_outcome number outcome x) ∷ l) (map-twice xs)

-- as many writes as before
outcome-length : (number : ℕ) (outcome : LocalOutcome) (ws : List Accepted) → length (map (set_outcome number outcome) ws) ≡ length ws
outcome-length number outcome [] = refl
outcome-length number outcome (w ∷ ws) = ap suc (outcome-length number outcome ws)

passes-outcome : (h later : PrimaryHistory) (number : ℕ) (outcome : LocalOutcome) → later.connections ≡ h.connections
    → later.writes ≡ map (set_outcome number outcome) h.writes → SameOpening h later → (NoneFailed later → NoneFailed h) → Passes h later
passes-outcome h later number outcome connections writes opening fine = record {
  map = opening.0;
  tuple = opening.1.0;
  marks = opening.1.1.0;
  settings = opening.1.1.1.0;
  over = λ count block within. ap (λ (l : List Accepted). writes_over h.opening_map count l block) writes
      ∙ over-outcome number outcome h.opening_map count block h.writes;
  writes = λ i b less at.
      let was = pick-image (set_outcome number outcome) h.writes i b (subst (λ (l : List Accepted). slice_get l i ≡ Some b) writes at) in (
        was.0,
        was.1,
        ap (λ (x : Accepted). x.write) (sym was.2) ∙ outcome-write number outcome was.0,
        ap (λ (x : Accepted). x.home) (sym was.2) ∙ outcome-home number outcome was.0,
      );
  count = let same = ap length writes in let size = outcome-length number outcome h.writes in omega arith;
  fine = fine;
  front = λ j c less at. subst (λ (l : List PrimaryConnection). slice_get l j ≡ Some c) (sym connections) at;
  back = λ j c less at. subst (λ (l : List PrimaryConnection). slice_get l j ≡ Some c) connections at;
  first = λ decided. first-carries h later decided
      (record {
        forward = λ k c at begun. (c, subst (λ (l : List PrimaryConnection). slice_get l k ≡ Some c) (sym connections) at, begun, begins-self c.taken);
        back = λ k d at. inl (d, subst (λ (l : List PrimaryConnection). slice_get l k ≡ Some d) connections at, refl);
      }) opening.1.0;
}

spans-outcome : (h later : PrimaryHistory) (number : ℕ) (outcome : LocalOutcome) → IsLastOpen h → later.connections ≡ h.connections
    → later.writes ≡ map (set_outcome number outcome) h.writes → SameOpening h later → (NoneFailed later → NoneFailed h)
    → ((block : ℕ) → later.marks block ≡ false → h.marks block ≡ false) → HasSpans h → HasSpans later
spans-outcome h later number outcome last connections writes opening fine marks t =
    let same : later.connections ≡ change_last (λ (c : PrimaryConnection). c) h.connections = connections ∙ sym (change-none h.connections) in
    spans-change h later (λ c. c) last (passes-outcome h later number outcome connections writes opening fine) same (ap length writes
    ∙ outcome-length number outcome h.writes)
    (keeps-quiet h later (primary_connection h) refl (λ k at. grows-self (primary_connection h)) (λ is. is) refl
    (λ unshut block unmarked. marks block unmarked)) t

-- a write that is done had not failed, since it waited
none-failed-done : (h : PrimaryHistory) (number : ℕ) → HasHomes h → is_unfinished h number ≡ true → NoneFailed (with_outcome number OnDisk h) → NoneFailed h
none-failed-done h number homes waiting fine = (done, fine.1)
  where
    done : (n : ℕ) (a : Accepted) → slice_get h.writes n ≡ Some a → is_failed a.outcome ≡ false
    done n a at = go (a.write.number == number) refl
      where
        there : slice_get (map (set_outcome number OnDisk) h.writes) n ≡ Some (set_outcome number OnDisk a)
        there = slice_get-map (set_outcome number OnDisk) h.writes n
            ∙ ap (λ (v : Option Accepted). elim v as (λ _. Option Accepted) [ None ↦ None | Some x ↦ Some (set_outcome number OnDisk x) ]) at

        waits-not-failed : (o : LocalOutcome) → is_waiting o ≡ true → is_failed o ≡ false
        waits-not-failed Waiting is = refl
        waits-not-failed OnDisk is = refl
        waits-not-failed (Failed offsets) is = absurd (cc)

        go : (b : Bool) → (a.write.number == number) ≡ b → is_failed a.outcome ≡ false
        go false is = ap (λ b. is_failed (if b then record a { outcome = OnDisk } else a).outcome) (sym is) ∙ fine.0 n (set_outcome number OnDisk a) there
        go true is =
            let found = pick-any (λ (x : Accepted). (x.write.number == number) && is_waiting x.outcome) h.writes waiting in
            let parts = and_parts (found.1.write.number == number) (is_waiting found.1.outcome) found.3 in
            let one = homes.numbered n a at in
            let two = homes.numbered found.0 found.1 found.2 in
            let na = eqb-true a.write.number number is in
            let nb = eqb-true found.1.write.number number parts.0 in
            let index : found.0 ≡ n = omega arith in
            let same : found.1 ≡ a = same-at h.writes n found.1 a (subst (λ (m : ℕ). slice_get h.writes m ≡ Some found.1) index found.2) at in
            waits-not-failed a.outcome (subst (λ (x : Accepted). is_waiting x.outcome ≡ true) same parts.1)

-- The local disk does a write.
pub spans-done : (h : PrimaryHistory) (number : ℕ) → HasHomes h → IsLastOpen h → is_unfinished h number ≡ true → HasSpans h
    → HasSpans (with_outcome number OnDisk h)
spans-done h number homes last waiting t = spans-outcome h (with_outcome number OnDisk h) number OnDisk last refl refl (
  refl,
  (refl, (refl, (refl, λ faithful. faithful))),
) (none-failed-done h number homes waiting) (λ block unmarked. unmarked) t

-- It fails one: that is no history without a failed write.
pub spans-faults : (h : PrimaryHistory) (number : ℕ) (offsets : List ℕ) → IsLastOpen h → HasSpans h → HasSpans (faulted number offsets h)
spans-faults h number offsets last t = go (accepted_at h number) refl
  where
    go : (v : Option Accepted) → accepted_at h number ≡ v
        → HasSpans (faulted_by v number offsets h)
    go None is = t
    go (Some accepted) is =
        let failed : LocalOutcome = Failed (within (length accepted.write.contents) offsets) in
        let later : PrimaryHistory = with_outcome number failed (record h { marks = marking accepted.write h.marks }) in
        spans-outcome h later number failed last refl refl (refl, (refl, (refl, (refl, λ faithful. faithful)))) (λ fine.
        let found = pick-found (λ (x : Accepted). x.write.number == number) h.writes accepted is in
        let there : slice_get (map (set_outcome number failed) h.writes) found.0 ≡ Some (set_outcome number failed accepted) =
        slice_get-map (set_outcome number failed) h.writes found.0
        ∙ ap (λ (v : Option Accepted). elim v as (λ _. Option Accepted) [ None ↦ None | Some x ↦ Some (set_outcome number failed x) ]) found.1 in
        let not_so = fine.0 found.0 (set_outcome number failed accepted) there in
        let so : is_failed (set_outcome number failed accepted).outcome ≡ true =
        ap (λ b. is_failed (if b then record accepted { outcome = failed } else accepted).outcome) found.2 in
        absurd (both_ways (is_failed (set_outcome number failed accepted).outcome) not_so so))
        (λ block unmarked. (unmarked-by accepted.write h.marks block unmarked).0) t

-- A step releases writes: a block that it clears has a word of the peer.
pub spans-releasing : (settings : Settings) (h later : PrimaryHistory) → IsRelease h later → Ordered settings h → OrderedAfter settings later → HasSpans later
    → HasSpans (releasing h later)
spans-releasing settings h later release p q t =
    let same : (releasing h later).connections ≡ change_last (λ (c : PrimaryConnection). c) later.connections = sym (change-none later.connections) in
    spans-end later (releasing h later) (λ c. c) q.1.0 same refl (refl, (refl, (refl, (refl, λ faithful. faithful)))) refl (begins-self (primary_connection later).taken) (record {
      grows = λ k at. grows-self (primary_connection later);
      unshut = λ is. is;
      begun = refl;
      marks = λ fine unshut block inside unmarked. elim (and_cases (later.marks block) (not (is_cleared h later block)) unmarked) [
        | inl clean ↦ inl clean
        | inr cleared ↦
            let c = release-clears settings h later block p q.1.1.0.0 q.1.0 release (not-false (is_cleared h later block) cleared) in
            inr (record { place = c.place; item = WriteItem c.accepted.write; there = c.there; touched = c.covered; sure = c.confirmed })
      ];
      reads = λ k older newer at s fine place block contents there. inl there;
      ends = λ n tuple there. inl there;
    }) t
