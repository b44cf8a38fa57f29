-- Which words may begin a generation: what holds of a word that may.
use Rattle.std.proofs.Common.{ℕ, ◌≡◌, ◌<◌, true, false, not, ◌&&◌, List, [], ◌∷◌, Option, Some, None, ◌==◌, nat_lt}
use Rattle.std.specs.List.{list_any}
use Rattle.std.proofs.lemmas.Bool.{and_parts, or_parts, not-true, ltb-true}
use Rattle.blocks.specs.declared.tuple.Tuple.{Tuple}
use Rattle.model.specs.Identifiers.{stands_in, is_fresh, are_fresh}
use Rattle.model.specs.Primary.{PrimaryHistory}
use Rattle.model.specs.PrimarySteps.{known_tuples}

-- a loss word that may be used is not zero
pub loss-some : (sync loss : ℕ) (known : List Tuple) → are_fresh sync loss known ≡ true → 0 < loss
loss-some sync loss known fresh =
    let both = and_parts (is_fresh sync known && is_fresh loss known) (not (sync == loss)) fresh in
    let one = and_parts (is_fresh sync known) (is_fresh loss known) both.0 in
    ltb-true 0 loss (and_parts (nat_lt 0 loss) (not (list_any (stands_in loss) known)) one.1).0

-- and stands in no known tuple
loss-unknown : (sync loss : ℕ) (known : List Tuple) → are_fresh sync loss known ≡ true → list_any (stands_in loss) known ≡ false
loss-unknown sync loss known fresh =
    let both = and_parts (is_fresh sync known && is_fresh loss known) (not (sync == loss)) fresh in
    let one = and_parts (is_fresh sync known) (is_fresh loss known) both.0 in
    not-true (list_any (stands_in loss) known) (and_parts (nat_lt 0 loss) (not (list_any (stands_in loss) known)) one.1).1

-- so not in the own one
pub loss-not-own : (h : PrimaryHistory) (sync loss : ℕ) → are_fresh sync loss (known_tuples h) ≡ true → stands_in loss h.tuple ≡ false
loss-not-own h sync loss fresh = go h.peer (loss-unknown sync loss (known_tuples h) fresh)
  where
    go : (v : Option Tuple) → list_any (stands_in loss) (elim v as (λ _. List Tuple) [ None ↦ h.tuple ∷ [] | Some peer ↦ h.tuple ∷ peer ∷ [] ]) ≡ false
        → stands_in loss h.tuple ≡ false
    go None none = (or_parts (stands_in loss h.tuple) _ none).0
    go (Some peer) none = (or_parts (stands_in loss h.tuple) _ none).0
