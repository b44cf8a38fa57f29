-- The active extents as writes are released.
use Rattle.std.proofs.Common.{ℕ, suc, ◌≡◌, ◌+◌, ◌-◌, ◌<◌, ◌≤◌, Bool, true, false, not, ◌&&◌, ◌||◌, List, [], ◌∷◌, length, filter, Some, slice_get, refl, sym}
use Rattle.std.proofs.Common.{◌∙◌, ap, arith, ◌==◌}
use Rattle.std.specs.Prelude.{if◌then◌else◌}
use Rattle.std.specs.List.{list_any}
use Rattle.std.proofs.lemmas.Bool.{both_ways, eqb-true, eq-eqb}
use Rattle.model.specs.Contents.{extent_of}
use Rattle.model.specs.Primary.{Accepted}
use Rattle.activitylog.specs.Activity.{Active, ActivityState, writes_of, one_less, ended}
use Rattle.transferlog.specs.declared.report.Released.{Released}
use Rattle.primary_protocol.specs.Core.{leaving}
use Rattle.primary_protocol.specs.Leaves.{AreOnce, writes_in, LeavesActivity}

-- an extent has one write less
less-at : (extent other : ℕ) (active : List Active)
    → writes_of other (one_less extent active) ≡ (if other == extent then writes_of other active - 1 else writes_of other active)
less-at extent other [] = elim (other == extent) as (λ b. 0 ≡ (if b then 0 - 1 else 0)) [ true ↦ refl | false ↦ refl ]
less-at extent other (a ∷ active) = go (less-at extent other active) (extent == a.extent) refl (other == a.extent) refl (other == extent) refl
  where
    go : writes_of other (one_less extent active) ≡ (if other == extent then writes_of other active - 1 else writes_of other active) → (b : Bool)
        → (extent == a.extent) ≡ b → (c : Bool) → (other == a.extent) ≡ c → (d : Bool) → (other == extent) ≡ d
        → writes_of other (if b then record a { writes = a.writes - 1 } ∷ active else a ∷ one_less extent active) ≡ (if d
        then (if c then a.writes else writes_of other active) - 1 else (if c then a.writes else writes_of other active))
    go rest true here true there true same = ap (λ x. if x then a.writes - 1 else writes_of other active) there
    go rest true here true there false other_one =
        absurd (both_ways (other == extent) other_one (eq-eqb other extent (eqb-true other a.extent there ∙ sym (eqb-true extent a.extent here))))
    go rest true here false there true same =
        absurd (both_ways (other == a.extent) there (eq-eqb other a.extent (eqb-true other extent same ∙ eqb-true extent a.extent here)))
    go rest true here false there false other_one = ap (λ x. if x then a.writes - 1 else writes_of other active) there
    go rest false here true there true same =
        absurd (both_ways (extent == a.extent) here (eq-eqb extent a.extent (sym (eqb-true other extent same) ∙ eqb-true other a.extent there)))
    go rest false here true there false other_one = ap (λ x. if x then a.writes else writes_of other (one_less extent active)) there
    go rest false here false there true same = ap (λ x. if x then a.writes else writes_of other (one_less extent active)) there
        ∙ (rest ∙ ap (λ x. if x then writes_of other active - 1 else writes_of other active) same)
    go rest false here false there false other_one = ap (λ x. if x then a.writes else writes_of other (one_less extent active)) there
        ∙ (rest ∙ ap (λ x. if x then writes_of other active - 1 else writes_of other active) other_one)

-- the same extents are active
less-active : (extent other : ℕ) (active : List Active)
    → list_any (λ (b : Active). other == b.extent) (one_less extent active) ≡ list_any (λ (b : Active). other == b.extent) active
less-active extent other [] = refl
less-active extent other (a ∷ active) =
    elim (extent == a.extent) as (λ b. list_any (λ (b : Active). other == b.extent) (if b then record a { writes = a.writes - 1 } ∷ active
    else a ∷ one_less extent active) ≡ list_any (λ (b : Active). other == b.extent) (a ∷ active)) [
      | true ↦ refl
      | false ↦ ap (λ b. (other == a.extent) || b) (less-active extent other active)
    ]

less-once : (extent : ℕ) (active : List Active) → AreOnce active → AreOnce (one_less extent active)
less-once extent [] once = once
less-once extent (a ∷ active) once = elim (extent == a.extent) as (λ b. AreOnce (if b then record a { writes = a.writes - 1 } ∷ active
    else a ∷ one_less extent active)) [
      | true ↦ once
      | false ↦ (less-active extent a.extent active ∙ once.0, less-once extent active once.1)
    ]

less-length : (extent : ℕ) (active : List Active) → length (one_less extent active) ≡ length active
less-length extent [] = refl
less-length extent (a ∷ active) = elim (extent == a.extent) as (λ b. length (if b then record a { writes = a.writes - 1 } ∷ active
    else a ∷ one_less extent active) ≡ suc (length active)) [
      | true ↦ refl
      | false ↦ ap suc (less-length extent active)
    ]

-- The active extents have so many writes each.
pub record Counts (a : ActivityState) (slots : ℕ) (count : ℕ → ℕ) : Type 0 where
  pub limit : a.slots ≡ slots
  pub counts : (extent : ℕ) → writes_of extent a.active ≡ count extent
  pub active : (extent : ℕ) → 0 < count extent → list_any (λ b. extent == b.extent) a.active ≡ true
  pub once : AreOnce a.active
  pub few : length a.active ≤ slots

pub counts-of : (a : ActivityState) (slots : ℕ) (writes : List Accepted) → LeavesActivity a slots writes → Counts a slots (λ extent. writes_in extent writes)
counts-of a slots writes l = record { limit = l.limit; counts = l.counts; active = l.active; once = l.once; few = l.few }

pub of-counts : (a : ActivityState) (slots : ℕ) (writes : List Accepted) → Counts a slots (λ extent. writes_in extent writes) → LeavesActivity a slots writes
of-counts a slots writes l = record { limit = l.limit; counts = l.counts; active = l.active; once = l.once; few = l.few }

-- how many of these lie in an extent
abbrev pub released_in : ℕ → List Released → ℕ
released_in extent released = length (filter (λ (r : Released). extent == extent_of r.first) released)

ended-counts : (extent : ℕ) (a : ActivityState) (slots : ℕ) (count : ℕ → ℕ) → Counts a slots count
    → Counts (ended extent a) slots (λ other. if other == extent then count other - 1 else count other)
ended-counts extent a slots count c = record {
  limit = c.limit;
  counts = λ other. less-at extent other a.active ∙ ap (λ n. if other == extent then n - 1 else n) (c.counts other);
  active = λ other some. less-active extent other a.active ∙ c.active other (more other (other == extent) some);
  once = less-once extent a.active c.once;
  few = let same = less-length extent a.active in let few = c.few in omega arith;
}
  where
    more : (other : ℕ) (b : Bool) → 0 < (if b then count other - 1 else count other) → 0 < count other
    more other true some = omega arith
    more other false some = some

pub counts-same : (a : ActivityState) (slots : ℕ) (count other : ℕ → ℕ) → ((extent : ℕ) → count extent ≡ other extent) → Counts a slots count
    → Counts a slots other
counts-same a slots count other same c = record {
  limit = c.limit;
  counts = λ extent. c.counts extent ∙ same extent;
  active = λ extent some. c.active extent (let is = same extent in omega arith);
  once = c.once;
  few = c.few;
}

pub leaving-counts : (released : List Released) (a : ActivityState) (slots : ℕ) (count : ℕ → ℕ) → Counts a slots count
    → Counts (leaving released a) slots (λ extent. count extent - released_in extent released)
leaving-counts [] a slots count c = counts-same a slots count (λ extent. count extent - 0) (λ extent. omega arith) c
leaving-counts (r ∷ released) a slots count c =
    counts-same (leaving released (ended (extent_of r.first) a)) slots (λ extent. (if extent == extent_of r.first then count extent - 1
    else count extent) - released_in extent released) (λ extent. count extent - released_in extent (r ∷ released)) pointwise
    (leaving-counts released (ended (extent_of r.first) a) slots (λ extent. if extent == extent_of r.first then count extent - 1
    else count extent) (ended-counts (extent_of r.first) a slots count c))
  where
    pointwise : (extent : ℕ) → (if extent == extent_of r.first then count extent - 1
        else count extent) - released_in extent released ≡ count extent - released_in extent (r ∷ released)
    pointwise extent = elim (extent == extent_of r.first) as
        (λ b. (if b then count extent - 1 else count extent) - released_in extent released ≡ count extent - length {A = Released} (if b
        then r ∷ filter (λ (r : Released). extent == extent_of r.first) released else filter (λ (r : Released). extent == extent_of r.first) released)) [
          | true ↦ omega arith
          | false ↦ refl
        ]

-- what passes is what passes still, and what passes no more
pub split-count : {X : Type 0} (p q r : X → Bool) (xs : List X) → ((i : ℕ) (x : X) → slice_get xs i ≡ Some x → p x ≡ true → q x ≡ true)
    → length (filter r (filter (λ x. not (p x)) xs)) ≡ length (filter r (filter (λ x. not (q x)) xs)) + length (filter r (filter (λ x. not (p x) && q x) xs))
split-count p q r [] more = refl
split-count {X} p q r (x ∷ xs) more = go (split-count p q r xs (λ i y at. more (suc i) y at)) (p x) refl (q x) refl (r x) refl
  where
    kept : Bool → List X → List X
    kept b l = if b then x ∷ l else l

    one : (l : List X) (b : Bool) → r x ≡ b → length (filter r (x ∷ l)) ≡ (if b then 1 else 0) + length (filter r l)
    one l true is = ap (λ b. length {A = X} (if b then x ∷ filter r l else filter r l)) is ∙ omega arith
    one l false is = ap (λ b. length {A = X} (if b then x ∷ filter r l else filter r l)) is ∙ omega arith

    go : length (filter r (filter (λ x. not (p x)) xs)) ≡ length (filter r (filter (λ x. not (q x)) xs)) + length (filter r (filter (λ x. not (p x) && q x) xs))
        → (b : Bool) → p x ≡ b → (c : Bool) → q x ≡ c → (d : Bool) → r x ≡ d
        → length (filter r (if not b then x ∷ filter (λ x. not (p x)) xs else filter (λ x. not (p x)) xs))
        ≡ length (filter r (if not c then x ∷ filter (λ x. not (q x)) xs else filter (λ x. not (q x)) xs)) + length
        (filter r (if not b && c then x ∷ filter (λ x. not (p x) && q x) xs else filter (λ x. not (p x) && q x) xs))
    go rest true isp false isq d isr = absurd (both_ways (q x) isq (more 0 x refl isp))
    go rest true isp true isq d isr = rest
    go rest false isp true isq d isr = let left = one (filter (λ x. not (p x)) xs) d isr in let right =
        one (filter (λ x. not (p x) && q x) xs) d isr in omega arith
    go rest false isp false isq d isr = let left = one (filter (λ x. not (p x)) xs) d isr in let right = one (filter (λ x. not (q x)) xs) d isr in omega arith
