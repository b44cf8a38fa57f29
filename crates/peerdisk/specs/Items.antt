-- The items of a row are in a slab, each under the key in its slot.
use Rattle.std.specs.Prelude.{ℕ, ◌≡◌, ◌≤◌, List, map, Option, None, Some, option_map, slice_index_or}
use Rattle.slab.specs.Slab.{Slab, ContainsKey, get, slab_len}
use Rattle.peerdisk.specs.Slots.{Filled, IsRow}
use Rattle.peerdisk.specs.declared.disk.Entry.{Entry}

module _ {X : Type 0} where
  -- a slot with the item of its key
  abbrev pub fill : Slab X → Option Entry → Option (Filled X)
  fill items None = None
  fill items (Some e) = option_map (λ item. record { epoch = e.epoch; item = item }) (get items e.key)

  -- the slots with their items
  abbrev pub filled : Slab X → List (Option Entry) → List (Option (Filled X))
  filled items slots = map (fill items) slots

-- Each key in the row has an item, and no two slots have the same key.
pub record Holds {X : Type 0} (items : Slab X) (slots : List (Option Entry)) : Type 0 where
  pub present : (i : ℕ) (e : Entry) → slice_index_or slots i None ≡ Some e → ContainsKey items e.key
  pub apart : (i j : ℕ) (e other : Entry) → slice_index_or slots i None ≡ Some e → slice_index_or slots j None ≡ Some other → e.key ≡ other.key → i ≡ j

-- The row's items are in the slab, which has no others, and room for as many as may be pending.
pub record IsStored {X : Type 0} (items : Slab X) (first : ℕ) (slots : List (Option Entry)) (count len capacity limit : ℕ) : Type 0 where
  pub row : IsRow first (filled items slots) count len capacity
  pub held : Holds items slots
  pub many : slab_len items ≡ count
  pub room : limit ≤ items.capacity
