-- Which item the disk may do: what holds of the items that are pending where none of them is of an earlier epoch, and the test by what it asks.
use Rattle.std.proofs.Common.{ℕ, ◌≡◌, ◌+◌, ◌≤◌, inl, inr, Bool, false, true, Some, slice_get, ◌∙◌, ap, arith, nat_lt}
use Rattle.std.specs.List.{list_any}
use Rattle.std.proofs.lemmas.Bool.{both_ways, cases_lt, false_from_ne_true, lt-ltb, ltb-true}
use Rattle.model.specs.Stream.{StreamItem, epoch_of, placed}
use Rattle.model.specs.Secondary.{SecondaryConnection, items_taken, is_pending, pending}
use Rattle.model.specs.SecondarySteps.{has_earlier}
use Rattle.laws.proofs.Lists.Picks.{any-filtered, pick-any}
use Rattle.laws.proofs.Streams.Places.{placed-at}

-- the item is of an earlier epoch than this one
abbrev is_before : SecondaryConnection → ℕ → ℕ × StreamItem → Bool
is_before d epoch entry = nat_lt (epoch_of (items_taken d) entry.0) epoch

-- where none of an earlier epoch is pending, what is pending is of the same epoch or of a later one
pub none-earlier : (d : SecondaryConnection) (place other : ℕ) (one : StreamItem) → has_earlier d place ≡ false → slice_get (items_taken d) other ≡ Some one
    → is_pending d (other, one) ≡ true → epoch_of (items_taken d) place ≤ epoch_of (items_taken d) other
none-earlier d place other one first at waits = elim (cases_lt (epoch_of (items_taken d) other) (epoch_of (items_taken d) place)) [
  | inr later ↦ later
  | inl earlier ↦
      let index : 0 + other ≡ other = omega arith in
      absurd (both_ways (has_earlier d place) first
      (any-filtered (is_before d (epoch_of (items_taken d) place)) (is_pending d) (placed (items_taken d)) other (other, one)
      (placed-at 0 (items_taken d) other one at ∙ ap (λ (k : ℕ). Some (k, one)) index) waits
      (lt-ltb (epoch_of (items_taken d) other) (epoch_of (items_taken d) place) earlier)))
]

-- whatever asks the same of the items that are pending is the test
pub earlier-by : (d : SecondaryConnection) (place epoch : ℕ) → epoch ≡ epoch_of (items_taken d) place
    → list_any (λ (entry : ℕ × StreamItem). nat_lt (epoch_of (items_taken d) entry.0) epoch) (pending d) ≡ has_earlier d place
earlier-by d place epoch is = ap (λ (e : ℕ). list_any (is_before d e) (pending d)) is

-- where no pending item is of an earlier epoch, none is found
pub none-before : (d : SecondaryConnection) (place : ℕ)
    → ((n : ℕ) (entry : ℕ × StreamItem) → slice_get (pending d) n ≡ Some entry → epoch_of (items_taken d) place ≤ epoch_of (items_taken d) entry.0)
    → has_earlier d place ≡ false
none-before d place least = false_from_ne_true (has_earlier d place) (λ some.
    let found = pick-any (is_before d (epoch_of (items_taken d) place)) (pending d) some in
    let less = ltb-true (epoch_of (items_taken d) found.1.0) (epoch_of (items_taken d) place) found.3 in
    let more = least found.0 found.1 found.2 in
    absurd (omega arith))
