-- The items of a stream that are due.
use Rattle.std.specs.Prelude.{ℕ, zero, suc, ◌+◌, List, [], ◌∷◌, Option, Some, None}
use Rattle.model.specs.Stream.{StreamItem, WriteItem, ResyncItem, BarrierItem, SyncUuidItem, UuidsItem}

-- the items, the oldest first, and for how many more there is room
pub record OutboxState : Type 0 where
  pub items : List StreamItem
  pub room : ℕ

-- the number of a barrier
abbrev pub barrier_of : StreamItem → Option ℕ
barrier_of (WriteItem write) = None
barrier_of (ResyncItem block contents) = None
barrier_of (BarrierItem epoch) = Some epoch
barrier_of (SyncUuidItem word) = None
barrier_of (UuidsItem tuple) = None

-- the numbers of the barriers among these items
abbrev pub numbers : List StreamItem → List ℕ
numbers [] = []
numbers (WriteItem write ∷ items) = numbers items
numbers (ResyncItem block contents ∷ items) = numbers items
numbers (BarrierItem epoch ∷ items) = epoch ∷ numbers items
numbers (SyncUuidItem word ∷ items) = numbers items
numbers (UuidsItem tuple ∷ items) = numbers items

-- `n` consecutive numbers from the first one on
abbrev pub run : ℕ → ℕ → List ℕ
run first zero = []
run first (suc n) = first ∷ run (first + 1) n
