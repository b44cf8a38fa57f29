-- What a primary's history keeps of its blocks is kept as the local disk does or fails a write.
use Rattle.std.proofs.Common.{ℕ, ◌≡◌, ◌+◌, ◌-◌, ◌≤◌, ◌⊎◌, inl, inr, true, false, not, ◌&&◌, ◌||◌, List, map, Option, Some, None, slice_get, refl, sym, ◌∙◌, ap}
use Rattle.std.proofs.Common.{subst, ◌==◌}
use Rattle.std.specs.Prelude.{if◌then◌else◌, length}
use Rattle.std.proofs.lemmas.Bool.{cases_Bool, both_ways, and_parts, and_from, not_from_false, or_left, eqb-true, false_from_ne_true}
use Rattle.std.proofs.lemmas.Simd.{map-map}
use Rattle.model.specs.Contents.{Write, Layer, block_under, overlay, covers}
use Rattle.model.specs.Marks.{Marks, marking}
use Rattle.model.specs.Primary.{LocalOutcome, Waiting, OnDisk, Failed, Accepted, PrimaryHistory, primary_connection, is_on_disk, is_failed, is_waiting}
use Rattle.model.specs.Primary.{is_completed}
use Rattle.model.specs.Primary.{is_open, offset_reached}
use Rattle.model.specs.PrimarySteps.{is_unfinished, set_outcome, with_outcome, accepted_at, faulted, faulted_by}
use Rattle.laws.proofs.Rules.Marking.{unmarked-by}
use Rattle.laws.proofs.Primary.Homes.{HasHomes}
use Rattle.laws.proofs.Primary.HomesMoves.{homes-kept}
use Rattle.laws.proofs.Blocks.Latest.{settling_layer, settling_map}
use Rattle.laws.proofs.Tracked.{IsCopy, IsTracked}
use Rattle.laws.proofs.Lists.Picks.{pick-any, pick-found, pick-image}
use Rattle.laws.proofs.Blocks.Overlays.{overlay-agrees, under-outside, under-alike}
use Rattle.laws.proofs.Tracked.Quiet.{same-number}
use Rattle.model.specs.Stream.{within}

-- A write that waits is not on the disk.
pub waiting-not-done : (outcome : LocalOutcome) → is_waiting outcome ≡ true → is_on_disk outcome ≡ true → ⊥
waiting-not-done Waiting waits done = absurd (cc)
waiting-not-done OnDisk waits done = absurd (cc)
waiting-not-done (Failed offsets) waits done = absurd (cc)

-- A write that waits is not failed.
pub waiting-not-failed : (outcome : LocalOutcome) → is_waiting outcome ≡ true → is_failed outcome ≡ false
waiting-not-failed Waiting waits = refl
waiting-not-failed OnDisk waits = refl
waiting-not-failed (Failed offsets) waits = absurd (cc)

-- A waiting write is open.
pub waiting-open : (h : PrimaryHistory) (i : ℕ) (accepted : Accepted) → IsTracked h → slice_get h.writes i ≡ Some accepted → is_waiting accepted.outcome ≡ true
    → is_open h accepted ≡ true
waiting-open h i accepted t at waits =
    let number : ℕ = accepted.write.number in
    and_from (not (is_completed h number)) (not (is_failed accepted.outcome))
    (not_from_false (is_completed h number)
    (false_from_ne_true (is_completed h number) (λ done. waiting-not-done accepted.outcome waits (t.on_disk i accepted at done))))
    (not_from_false (is_failed accepted.outcome) (waiting-not-failed accepted.outcome waits))

-- the accepted write of an unfinished number waits
pub unfinished-waits : (h : PrimaryHistory) (number i : ℕ) (accepted : Accepted) → HasHomes h → is_unfinished h number ≡ true
    → slice_get h.writes i ≡ Some accepted
    → accepted.write.number ≡ number → is_waiting accepted.outcome ≡ true
unfinished-waits h number i accepted homes unfinished at is =
    let found = pick-any (λ (a : Accepted). (a.write.number == number) && is_waiting a.outcome) h.writes unfinished in
    let parts = and_parts (found.1.write.number == number) (is_waiting found.1.outcome) found.3 in
    let same : found.1 ≡ accepted = same-number h found.0 i found.1 accepted homes found.2 at (eqb-true found.1.write.number number parts.0 ∙ sym is) in
    subst (λ (a : Accepted). is_waiting a.outcome ≡ true) same parts.1

-- an outcome is put down with the write of its number, and no other
pub outcome-cases : (number : ℕ) (outcome : LocalOutcome) (a : Accepted)
    → ((a.write.number ≡ number) × (set_outcome number outcome a ≡ record a { outcome = outcome })) ⊎ (set_outcome number outcome a ≡ a)
outcome-cases number outcome a = elim (cases_Bool (a.write.number == number)) [
  | inl same ↦ inl (eqb-true a.write.number number same, ap (λ b. if b then record a { outcome = outcome } else a) same)
  | inr other ↦ inr (ap (λ b. if b then record a { outcome = outcome } else a) other)
]

-- what a block comes to hold, where the layer of the changed write comes to the same there
settling-outcome : (h : PrimaryHistory) (number : ℕ) (outcome : LocalOutcome) (block : ℕ)
    → ((i : ℕ) (a : Accepted) → slice_get h.writes i ≡ Some a → a.write.number ≡ number → (v : Option (List ℕ))
    → block_under (settling_layer (record a { outcome = outcome })) block v ≡ block_under (settling_layer a) block v)
    → overlay h.opening_map (map settling_layer (map (set_outcome number outcome) h.writes)) block ≡ settling_map h block
settling-outcome h number outcome block same =
    ap (λ (layers : List Layer). overlay h.opening_map layers block) (map-map settling_layer (set_outcome number outcome) h.writes)
    ∙ overlay-agrees (λ (a : Accepted). settling_layer (set_outcome number outcome a)) settling_layer h.opening_map h.writes block
    (λ i a at v. elim (outcome-cases number outcome a) [
      | inl changed ↦ ap (λ (b : Accepted). block_under (settling_layer b) block v) changed.1 ∙ same i a at changed.0 v
      | inr kept ↦ ap (λ (b : Accepted). block_under (settling_layer b) block v) kept
    ])

-- a history in which an outcome was put down, with other marks
abbrev concluded : PrimaryHistory → ℕ → LocalOutcome → Marks → PrimaryHistory
concluded h number outcome marks = record h { writes = map (set_outcome number outcome) h.writes; marks = marks }

-- An outcome is put down with a waiting write.
tracked-outcome : (h : PrimaryHistory) (number : ℕ) (outcome : LocalOutcome) (marks : Marks) → is_unfinished h number ≡ true → IsTracked h
    → HasHomes (concluded h number outcome marks)
    → is_waiting outcome ≡ false → ((place block : ℕ) (contents : List ℕ) → IsCopy (primary_connection h) place block contents
    → settling_map (concluded h number outcome marks) block ≡ settling_map h block)
    → ((block : ℕ) → marks block ≡ false → (h.marks block ≡ false) × (settling_map (concluded h number outcome marks) block ≡ settling_map h block))
    → IsTracked (concluded h number outcome marks)
tracked-outcome h number outcome marks unfinished t homes done copied equal = record {
  homes = homes;
  sized = t.sized;
  writes_inside = λ i b at. let a = before i b at in subst (λ (w : Write). w.first + length w.contents ≤ h.settings.blocks) a.2 (t.writes_inside i a.0 a.1);
  items_inside = t.items_inside;
  on_disk = λ i b at done.
      let a = before i b at in
      let was : is_on_disk a.0.outcome ≡ true = t.on_disk i a.0 a.1 (subst (λ (w : Write). is_completed h w.number ≡ true) (sym a.2) done) in
      elim a.3 [
        | inl changed ↦ absurd (waiting-not-done a.0.outcome (unfinished-waits h number i a.0 t.homes unfinished a.1 changed.0) was)
        | inr kept ↦ subst (λ (x : Accepted). is_on_disk x.outcome ≡ true) (sym kept) was
      ];
  under_way = t.under_way;
  copied = λ place block contents copy.
      let was = t.copied place block contents copy in (
        λ faithful. copied place block contents copy ∙ was.0 faithful,
        λ i b at waits.
            let a = before i b at in
            elim a.3 [
              | inl changed ↦ absurd (both_ways (is_waiting b.outcome) (ap is_waiting changed.1 ∙ done) waits)
              | inr kept ↦ subst (λ (x : Accepted). covers x.write block ≡ false) (sym kept)
                  (was.1 i a.0 a.1 (subst (λ (x : Accepted). is_waiting x.outcome ≡ true) kept waits))
            ],
      );
  equal = λ block within unmarked faithful. t.equal block within (equal block unmarked).0 faithful ∙ sym (equal block unmarked).1;
}
  where
    before : (i : ℕ) (b : Accepted) → slice_get (map (set_outcome number outcome) h.writes) i ≡ Some b
        → (a : Accepted) × (slice_get h.writes i ≡ Some a) × (a.write ≡ b.write) × (((a.write.number ≡ number) × (b.outcome ≡ outcome)) ⊎ (b ≡ a))
    before i b at =
        let old = pick-image (set_outcome number outcome) h.writes i b at in
        elim (outcome-cases number outcome old.0) [
          | inl changed ↦ let is : record old.0 { outcome = outcome } ≡ b = sym changed.1
              ∙ old.2 in (old.0, old.1, ap (λ (x : Accepted). x.write) is, inl (changed.0, ap (λ (x : Accepted). x.outcome) (sym is)))
          | inr kept ↦ let is : old.0 ≡ b = sym kept ∙ old.2 in (old.0, old.1, ap (λ (x : Accepted). x.write) is, inr (sym is))
        ]

-- The local disk does a write: what the disk comes to hold is the same.
pub tracked-writes : (h : PrimaryHistory) (number : ℕ) → is_unfinished h number ≡ true → IsTracked h → IsTracked (with_outcome number OnDisk h)
tracked-writes h number unfinished t =
    tracked-outcome h number OnDisk h.marks unfinished t (homes-kept.writes h number unfinished t.homes) refl (λ place block contents copy. same block)
    (λ block unmarked. (unmarked, same block))
  where
    same : (block : ℕ) → overlay h.opening_map (map settling_layer (map (set_outcome number OnDisk) h.writes)) block ≡ settling_map h block
    same block = settling-outcome h number OnDisk block (λ i a at is v.
        under-alike a.write.first a.write.contents (λ offset. is_waiting OnDisk || offset_reached OnDisk offset)
        (λ offset. is_waiting a.outcome || offset_reached a.outcome offset) block v
        (sym (or_left (is_waiting a.outcome) (offset_reached a.outcome (block - a.write.first)) (unfinished-waits h number i a t.homes unfinished at is))))

-- The local disk fails a write: its range is marked, and no block under way is in it.
pub tracked-faults : (h : PrimaryHistory) (number : ℕ) (offsets : List ℕ) → is_unfinished h number ≡ true → IsTracked h → HasHomes (faulted number offsets h)
    → IsTracked (faulted number offsets h)
tracked-faults h number offsets unfinished t = go (accepted_at h number) refl
  where
    go : (v : Option Accepted) → accepted_at h number ≡ v
        → HasHomes (faulted_by v number offsets h)
        → IsTracked (faulted_by v number offsets h)
    go None none homes = t
    go (Some accepted) some homes =
        let found = pick-found (λ (a : Accepted). a.write.number == number) h.writes accepted some in
        let is : accepted.write.number ≡ number = eqb-true accepted.write.number number found.2 in
        let same : (block : ℕ) → covers accepted.write block ≡ false
        → overlay h.opening_map (map settling_layer (map (set_outcome number (Failed (within (length accepted.write.contents) offsets))) h.writes)) block ≡
        settling_map h block =
        λ block outside. settling-outcome h number (Failed (within (length accepted.write.contents) offsets)) block (λ i a at number_is v.
        let one : accepted ≡ a = same-number h found.0 i accepted a t.homes found.1 at (is ∙ sym number_is) in
        let off : covers a.write block ≡ false = subst (λ (x : Accepted). covers x.write block ≡ false) one outside in
        under-outside (settling_layer (record a { outcome = Failed (within (length accepted.write.contents) offsets) })) block v off
        ∙ sym (under-outside (settling_layer a) block v off)) in
        tracked-outcome h number (Failed (within (length accepted.write.contents) offsets)) (marking accepted.write h.marks) unfinished t homes refl
        (λ place block contents copy. same block
        ((t.copied place block contents copy).1 found.0 accepted found.1 (unfinished-waits h number found.0 accepted t.homes unfinished found.1 is)))
        (λ block unmarked. let parts = unmarked-by accepted.write h.marks block unmarked in (parts.0, same block parts.1))
