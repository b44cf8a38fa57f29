-- What a disk answers, and keeps, of a row whose items lie in a slab.
use Rattle.std.proofs.Common.{ℕ, ◌≡◌, ◌+◌, ◌-◌, ◌<◌, ◌≤◌, true, List, length, Option, Some, None, refl, sym, ◌∙◌, ap, arith, get_or}
use Rattle.std.specs.Prelude.{is_some, option_map}
use Rattle.std.proofs.lemmas.List.{length-map}
use Rattle.slab.specs.Slab.{Slab, get}
use Rattle.peerdisk.specs.Pending.{at_place, is_pending}
use Rattle.peerdisk.specs.Slots.{AreInOrder, IsRow, of_filled, pending_from, trimmed}
use Rattle.peerdisk.specs.Items.{Holds, IsStored, fill, filled}
use Rattle.peerdisk.specs.declared.disk.Entry.{Entry}
use Rattle.peerdisk.proofs.InSlots.{Within, at-slot, grown, within}
use Rattle.peerdisk.proofs.Filled.{begins-filled, begins-trimmed, fill-at, held-trimmed, pending-trimmed, some-at}

pub length-filled : {X : Type 0} (items : Slab X) (slots : List (Option Entry)) → length (filled items slots) ≡ length slots
length-filled items slots = length-map slots (fill items)

-- a pending place has a slot, and that is no hole
pub record WithinRow (k first : ℕ) (slots : List (Option Entry)) : Type 0 where
  pub from : first ≤ k
  pub to : k - first < length slots
  pub taken : is_some (get_or slots (k - first) None) ≡ true

pub within-row : {X : Type 0} (k first : ℕ) (items : Slab X) (slots : List (Option Entry)) → Holds items slots
    → is_pending k (pending_from first (filled items slots)) ≡ true → WithinRow k first slots
within-row k first items slots held is =
    let there : Within k first (filled items slots) = within k first (filled items slots) is in
    record {
      from = there.from;
      to = omega (arith, there.to, length-filled items slots);
      taken = sym (some-at items slots (k - first) held) ∙ there.taken;
    }

-- what is at the place of a slot
pub at-filled : {X : Type 0} (k first i : ℕ) (e : Entry) (item : X) (items : Slab X) (slots : List (Option Entry)) → k ≡ first + i
    → get_or slots i None ≡ Some e → get items e.key ≡ Some item
    → at_place k (pending_from first (filled items slots)) ≡ Some (record { place = k; epoch = e.epoch; item = item })
at-filled k first i e item items slots at is found =
    let here : fill items (Some e) ≡ Some (record { epoch = e.epoch; item = item }) = rw found refl in
    at-slot k first i (filled items slots) at ∙ ap (option_map (of_filled k)) (fill-at items slots i ∙ ap (fill items) is ∙ here)

pub at-hole : {X : Type 0} (k first i : ℕ) (items : Slab X) (slots : List (Option Entry)) → k ≡ first + i → get_or slots i None ≡ None
    → at_place k (pending_from first (filled items slots)) ≡ None
at-hole k first i items slots at is = at-slot k first i (filled items slots) at ∙ ap (option_map (of_filled k)) (fill-at items slots i ∙ ap (fill items) is)

-- The row may begin elsewhere, if it has no slot yet.
pub grown-stored : {X : Type 0} (items : Slab X) (first other : ℕ) (slots : List (Option Entry)) (count len other_len capacity other_capacity limit : ℕ)
    → IsStored items first slots count len capacity limit
    → len ≡ length slots → other_len ≡ len → other < 4294967296 → (0 < len → other ≡ first) → 0 < other_capacity
    → IsStored items other slots count other_len other_capacity limit
grown-stored items first other slots count len other_len capacity other_capacity limit stored long same low begin room = record {
  row = grown first other (filled items slots) count len other_len capacity other_capacity stored.row (long
      ∙ sym (length-filled items slots)) same low begin room;
  held = stored.held;
  many = stored.many;
  room = stored.room;
}

-- The holes at the row's start go.
pub left-trimmed : {X : Type 0} (later first : ℕ) (items : Slab X) (slots new : List (Option Entry)) → new ≡ trimmed slots
    → later + length new ≡ first + length slots
    → pending_from later (filled items new) ≡ pending_from first (filled items slots)
left-trimmed later first items slots new is end =
    let end_is : later + length (trimmed slots) ≡ first + length slots = omega (arith, ap length is) in
    ap (λ xs. pending_from later (filled items xs)) is ∙ pending-trimmed later first items slots end_is

pub row-trimmed : {X : Type 0} (later first : ℕ) (items : Slab X) (slots new : List (Option Entry)) (count len capacity : ℕ) → Holds items slots
    → new ≡ trimmed slots → later + length new ≡ first + length slots
    → AreInOrder (pending_from first (filled items slots)) → count ≡ length (pending_from first (filled items slots)) → later + len ≤ 4294967296
    → (0 < later → 0 < capacity) → IsRow later (filled items new) count len capacity
row-trimmed later first items slots new count len capacity held is end order counted small begun =
    let left = left-trimmed later first items slots new is end in
    record {
      order = rw left order;
      counted = rw left counted;
      begins = rw is (begins-filled items (trimmed slots) (held-trimmed items slots held) (begins-trimmed slots));
      small = small;
      begun = begun;
    }
