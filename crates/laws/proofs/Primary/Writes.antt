-- The accepted writes as a step goes on: each stays, and none waits for the local disk again.
use Rattle.std.proofs.Common.{ℕ, ◌≡◌, inl, inr, true, false, List, map, Option, Some, None, slice_get, refl, sym, ◌∙◌, ap, ◌==◌}
use Rattle.std.specs.Prelude.{if◌then◌else◌, option_map}
use Rattle.std.proofs.lemmas.Bool.{cases_Bool, both_ways}
use Rattle.std.proofs.lemmas.Option.{slice_get-map}
use Rattle.model.specs.Primary.{LocalOutcome, Accepted, is_waiting}
use Rattle.model.specs.PrimarySteps.{set_outcome}
use Rattle.laws.proofs.Primary.Homes.{outcome-write, outcome-home}

-- Writes that stay, in both directions.
pub record KeepsWrites (ws vs : List Accepted) : Type 0 where
  pub forward : (i : ℕ) (a : Accepted) → slice_get ws i ≡ Some a
      → (b : Accepted) × (slice_get vs i ≡ Some b) × (b.write ≡ a.write) × (b.home ≡ a.home) × (is_waiting a.outcome ≡ false → is_waiting b.outcome ≡ false)
  pub back : (i : ℕ) (b : Accepted) → slice_get vs i ≡ Some b
      → (a : Accepted) × (slice_get ws i ≡ Some a) × (b.write ≡ a.write) × (b.home ≡ a.home) × (is_waiting b.outcome ≡ true → is_waiting a.outcome ≡ true)

-- writes that stay as they are are kept
pub keeps-writes : (ws : List Accepted) → KeepsWrites ws ws
keeps-writes ws = record { forward = λ i a at. (a, at, refl, refl, λ w. w); back = λ i b at. (b, at, refl, refl, λ w. w) }

-- the local disk has done or failed the write of a number
pub keeps-outcome : (number : ℕ) (outcome : LocalOutcome) (ws : List Accepted) → is_waiting outcome ≡ false
    → KeepsWrites ws (map (set_outcome number outcome) ws)
keeps-outcome number outcome ws done = record {
  forward =
      λ i a at. (
        set_outcome number outcome a,
        slice_get-map (set_outcome number outcome) ws i ∙ ap (option_map (set_outcome number outcome)) at,
        outcome-write number outcome a,
        outcome-home number outcome a,
        set-done a,
      );
  back = λ i b at. go i (slice_get ws i) refl b (sym (slice_get-map (set_outcome number outcome) ws i) ∙ at);
}
  where
    set-done : (a : Accepted) → is_waiting a.outcome ≡ false → is_waiting (set_outcome number outcome a).outcome ≡ false
    set-done a was = elim (a.write.number == number) as (λ b. is_waiting (if b then record a { outcome = outcome } else a).outcome ≡ false)
        [ true ↦ done | false ↦ was ]

    set-back : (a : Accepted) → is_waiting (set_outcome number outcome a).outcome ≡ true → is_waiting a.outcome ≡ true
    set-back a waits = elim (cases_Bool (is_waiting a.outcome))
        [ inl is ↦ is | inr not_so ↦ absurd (both_ways (is_waiting (set_outcome number outcome a).outcome) (set-done a not_so) waits) ]

    go : (i : ℕ) (v : Option Accepted) → slice_get ws i ≡ v → (b : Accepted) → option_map (set_outcome number outcome) v ≡ Some b
        → (a : Accepted) × (slice_get ws i ≡ Some a) × (b.write ≡ a.write) × (b.home ≡ a.home) × (is_waiting b.outcome ≡ true → is_waiting a.outcome ≡ true)
    go i None is b there = absurd (cc)
    go i (Some a) is b there =
        let same : set_outcome number outcome a ≡ b = cc in (
          a,
          is,
          ap (λ (x : Accepted). x.write) (sym same) ∙ outcome-write number outcome a,
          ap (λ (x : Accepted). x.home) (sym same) ∙ outcome-home number outcome a,
          λ waits. set-back a (ap (λ (x : Accepted). is_waiting x.outcome) same ∙ waits),
        )
