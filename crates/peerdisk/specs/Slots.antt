-- The slots of a row: each has the item at its place, or is a hole.
use Rattle.std.specs.Prelude.{ℕ, zero, suc, ◌≡◌, ◌+◌, ◌^◌, ◌<◌, ◌≤◌, nat_le, Bool, true, false, List, [], ◌∷◌, length, Option, None, Some}
use Rattle.std.specs.List.{AllByRecursion}
use Rattle.peerdisk.specs.Pending.{Pending}
use Rattle.peerdisk.specs.declared.disk.Entry.{Entry}

-- an item, and the epoch that it belongs to
pub record Filled (X : Type 0) : Type 0 where
  pub epoch : ℕ
  pub item : X

module _ {X : Type 0} where
  -- the item in the slot of a place
  abbrev pub of_filled : ℕ → Filled X → Pending X
  of_filled place e = record { place = place; epoch = e.epoch; item = e.item }

  -- the items among these slots, the first of which has this place
  abbrev pub pending_from : ℕ → List (Option (Filled X)) → List (Pending X)
  pending_from first [] = []
  pending_from first (None ∷ slots) = pending_from (suc first) slots
  pending_from first (Some e ∷ slots) = of_filled first e ∷ pending_from (suc first) slots

  -- no later item has an earlier epoch
  abbrev pub AreInOrder : List (Pending X) → Type 0
  AreInOrder [] = Unit {0}
  AreInOrder (p ∷ pending) = AllByRecursion (λ later. p.epoch ≤ later.epoch) pending × AreInOrder pending

  -- whether the first slot is no hole, if there is one
  abbrev pub begins_taken : List (Option X) → Bool
  begins_taken [] = true
  begins_taken (None ∷ slots) = false
  begins_taken (Some e ∷ slots) = true

  -- the slots but for the holes before the first that is none
  abbrev pub trimmed : List (Option X) → List (Option X)
  trimmed [] = []
  trimmed (None ∷ slots) = trimmed slots
  trimmed (Some e ∷ slots) = Some e ∷ slots

  -- `n` slots, with holes past the last of these
  abbrev pub padded : ℕ → List (Option X) → List (Option X)
  padded zero slots = []
  padded (suc n) [] = None ∷ padded n []
  padded (suc n) (slot ∷ slots) = slot ∷ padded n slots

-- whether a slot has an item of no later epoch
abbrev pub stays : ℕ → Option Entry → Bool
stays epoch None = false
stays epoch (Some e) = nat_le e.epoch epoch

-- The items are in order and counted, and the first slot is no hole. A row that has begun somewhere has room for a
-- slot.
pub record IsRow {X : Type 0} (first : ℕ) (slots : List (Option (Filled X))) (count len capacity : ℕ) : Type 0 where
  pub order : AreInOrder (pending_from first slots)
  pub counted : count ≡ length (pending_from first slots)
  pub begins : begins_taken slots ≡ true
  pub small : first + len ≤ 2 ^ 32
  pub begun : 0 < first → 0 < capacity
