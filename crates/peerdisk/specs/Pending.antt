-- Items that are taken and not applied, by rising place in the stream.
use Rattle.std.specs.Prelude.{ℕ, nat_lt, nat_le, nat_eq, Bool, true, false, List, [], ◌∷◌, ◌++◌, length, filter, find, Option, Some, None, option_map}
use Rattle.std.specs.Prelude.{unwrap_or, Result, Ok, Err, if◌then◌else◌}
use Rattle.std.specs.List.{list_any}
use Rattle.blocks.specs.declared.refusal.Refusal.{Refusal}
use Rattle.blocks.specs.declared.refusal.Refusal.TheVariants.{EpochOpen, NoMemory, NothingThere, PendingFull, UnknownJob}

-- an item, its place in the stream and its epoch
pub record Pending (X : Type 0) : Type 0 where
  pub place : ℕ
  pub epoch : ℕ
  pub item : X

-- how many items may be pending, those that are, by rising place, and below which place there is room
pub record PeerDiskState (X : Type 0) : Type 0 where
  pub limit : ℕ
  pub pending : List (Pending X)
  pub reach : ℕ

-- whether memory was refused
abbrev pub is_out_of_memory : Result (Unit {0}) Refusal → Bool
is_out_of_memory (Err NoMemory) = true
is_out_of_memory _ = false

module _ {X : Type 0} where
  -- the pending item at a place
  abbrev pub at_place : ℕ → List (Pending X) → Option (Pending X)
  at_place place pending = find (λ p. nat_eq place p.place) pending

  -- whether the place is pending
  abbrev pub is_pending : ℕ → List (Pending X) → Bool
  is_pending place pending = list_any (λ p. nat_eq place p.place) pending

  -- the item of a place
  abbrev pub item_at : ℕ → List (Pending X) → Option X
  item_at place pending = option_map (λ p. p.item) (at_place place pending)

  -- the epoch of a pending place
  abbrev pub epoch_at : ℕ → List (Pending X) → ℕ
  epoch_at place pending = unwrap_or (option_map (λ p. p.epoch) (at_place place pending)) 0

  -- whether an item of an earlier epoch is pending
  abbrev pub has_earlier : ℕ → List (Pending X) → Bool
  has_earlier place pending = list_any (λ p. nat_lt p.epoch (epoch_at place pending)) pending

  -- the pending items without the one at this place
  abbrev pub without : ℕ → List (Pending X) → List (Pending X)
  without place [] = []
  without place (p ∷ pending) = if nat_eq place p.place then pending else p ∷ without place pending

  -- the pending items after the one at this place failed: without it, and none of a later epoch
  abbrev pub after_fault : ℕ → List (Pending X) → List (Pending X)
  after_fault place pending = filter (λ p. nat_le p.epoch (epoch_at place pending)) (without place pending)

  -- the lowest pending place
  abbrev pub next : List (Pending X) → Result ℕ Refusal
  next [] = Err NothingThere
  next (p ∷ pending) = Ok p.place

  -- the item that may start, or why it may not
  abbrev pub start : ℕ → List (Pending X) → Result X Refusal
  start place pending = started (at_place place pending)
    where
      started : Option (Pending X) → Result X Refusal
      started None = Err UnknownJob
      started (Some p) = if has_earlier place pending then Err EpochOpen else Ok p.item

  -- adds a pending item, unless as many are pending as may be or memory is refused
  abbrev pub put : ℕ → ℕ → X → Bool → PeerDiskState X → Result (Unit {0}) Refusal × PeerDiskState X
  put place epoch item out_of_memory s =
      if nat_le s.limit (length s.pending) then (Err PendingFull, s)
      else if out_of_memory then (Err NoMemory, s)
      else (Ok tt, record s { pending = s.pending ++ record { place = place; epoch = epoch; item = item } ∷ [] })
