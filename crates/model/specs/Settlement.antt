-- Receipts of completed writes, and the settlement of two nodes that are brought together at rest.
use Rattle.std.specs.Prelude.{ℕ, max, ◌==◌, Bool, true, false, not, ◌&&◌, ◌||◌, List, [], ◌∷◌, length, filter, Option, Some, None, is_none}
use Rattle.std.specs.Prelude.{Result, Ok, Err}
use Rattle.std.specs.List.{list_any}
use Rattle.blocks.specs.Positions.{StreamPosition, same_position}
use Rattle.blocks.specs.declared.refusal.Refusal.{Refusal}
use Rattle.blocks.specs.declared.refusal.Refusal.TheVariants.{ReadFault, StrangeReceipt, NotDrained}
use Rattle.model.specs.Stream.{has_blocks, placed, below}
use Rattle.model.specs.Refusals.{Test, first_refusal}
use Rattle.model.specs.Primary.{CompletionKind, Linked, Alone, Completion, PrimaryHistory, primary_connection, items_sent, local_map, next_local}
use Rattle.model.specs.Secondary.{SecondaryConnection, SecondaryHistory, secondary_connection, secondary_connection_at, items_taken, secondary_map, is_drained}
use Rattle.model.specs.Secondary.{is_done}
use Rattle.model.specs.Pair.{same_block}
use Rattle.model.specs.Headline.{is_marked}

-- A receipt as its caller sees it: the write's number and range, how it was completed, and its home, or none: the index
-- of its connection, and its place in the stream, both from 0.
pub record Receipt : Type 0 where
  pub number : ℕ
  pub first : ℕ
  pub count : ℕ
  pub kind : CompletionKind
  pub home : Option StreamPosition

-- the receipt of an entry of the journal
abbrev pub receipt_of : Completion → Receipt
receipt_of entry = record {
  number = entry.write.number;
  first = entry.write.first;
  count = length entry.write.contents;
  kind = entry.kind;
  home = entry.home;
}

-- two kinds of completion are the same
abbrev pub same_kind : CompletionKind → CompletionKind → Bool
same_kind Linked Linked = true
same_kind Alone Alone = true
same_kind _ _ = false

-- two homes are the same
abbrev pub same_home : Option StreamPosition → Option StreamPosition → Bool
same_home None None = true
same_home (Some a) (Some b) = same_position a b
same_home _ _ = false

-- two receipts are the same
abbrev pub same_receipt : Receipt → Receipt → Bool
same_receipt a b = ((a.number == b.number) && (a.first == b.first)) && ((a.count == b.count) && (same_kind a.kind b.kind && same_home a.home b.home))

-- Some receipt of a list is strange: no entry of the journal has it, or it was given before.
abbrev pub has_strange : List Completion → List Receipt → List Receipt → Bool
has_strange journal earlier [] = false
has_strange journal earlier (receipt ∷ receipts) =
    (not (list_any (λ entry. same_receipt (receipt_of entry) receipt) journal) || list_any (same_receipt receipt) earlier)
    || has_strange journal (receipt ∷ earlier) receipts

-- Both ends are closed, nothing is pending, and the local disk has done or failed every write.
abbrev pub is_at_rest : PrimaryHistory → SecondaryHistory → Bool
is_at_rest p s = ((primary_connection p).closed && (secondary_connection s).closed) && (is_drained s && is_none (next_local p))

-- A settlement: how many items of the primary's last connection were sent, taken and applied, how many receipts are
-- confirmed, and how many unmarked blocks differ between the disks.
pub record Settlement : Type 0 where
  pub sent : ℕ
  pub taken : ℕ
  pub applied : ℕ
  pub confirmed : ℕ
  pub unmarked : ℕ

-- how many writes and resync items are applied; one that failed is not
abbrev pub applied_items : SecondaryConnection → ℕ
applied_items d = length (filter (λ entry. has_blocks entry.1 && is_done d entry) (placed (items_taken d)))

-- how many unmarked blocks differ between the disks; a block that only one of them has counts as differing
abbrev pub unmarked_differences : PrimaryHistory → SecondaryHistory → ℕ
unmarked_differences p s =
    length (filter (λ block. not (same_block (local_map p block) (secondary_map s block)) && not (is_marked p block))
    (below (max p.settings.blocks s.settings.blocks)))

-- the numbers of a settlement, from both histories
abbrev pub settlement : PrimaryHistory → SecondaryHistory → List Receipt → Settlement
settlement p s receipts =
    let d = secondary_connection_at s (length p.connections) in
    record {
      sent = items_sent (primary_connection p);
      taken = length (items_taken d);
      applied = applied_items d;
      confirmed = length receipts;
      unmarked = unmarked_differences p s;
    }

-- The tests of a settlement, in order. `faulty` says that a disk fails a read.
abbrev pub settle_tests : PrimaryHistory → SecondaryHistory → List Receipt → Bool → List Test
settle_tests p s receipts faulty = (not (is_at_rest p s), NotDrained) ∷ (has_strange p.journal [] receipts, StrangeReceipt) ∷ (faulty, ReadFault) ∷ []

-- two nodes settle, with the receipts that their callers have
abbrev pub settle : PrimaryHistory → SecondaryHistory → List Receipt → Bool → Result Settlement Refusal
settle p s receipts faulty = elim (first_refusal (settle_tests p s receipts faulty)) [ Some refusal ↦ Err refusal | None ↦ Ok (settlement p s receipts) ]
