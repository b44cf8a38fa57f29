-- A receipt as its caller sees it.
use Rattle.std.specs.Prelude.{ℕ, suc, Bool, true, false, ◌==◌, ◌&&◌, Option, Some, None}
use Rattle.std.specs.Option.{option_map}
use Rattle.blocks.specs.Positions.{StreamPosition}
use Rattle.model.specs.Primary.{CompletionKind, Linked, Alone}
use Rattle.primary_protocol.specs.Core.{JournalEntry, Open, Failed, Completed, PrimaryState}
use Rattle.primary_protocol.specs.Transitions.{entry_at}
use Rattle.model.specs.Settlement as model
use Rattle.primary.specs.declared.receipts.CompletionKind as receipts
use Rattle.primary.specs.declared.receipts.CompletionKind.TheVariants as kind
use Rattle.primary.specs.declared.receipts.Receipt.TheInside.{Inside}

-- how a write was completed
abbrev pub kind_as : receipts.CompletionKind → CompletionKind
kind_as kind.Linked = Linked
kind_as kind.Alone = Alone

-- a receipt in plain values
abbrev pub receipt_as : Inside → model.Receipt
receipt_as r = record { number = r.number; first = r.first; count = r.count; kind = kind_as r.kind; home = r.home }

-- and back
abbrev pub kind_from : CompletionKind → receipts.CompletionKind
kind_from Linked = kind.Linked
kind_from Alone = kind.Alone

-- the fields of a receipt
abbrev pub receipt_from : model.Receipt → Inside
receipt_from r = record { number = r.number; first = r.first; count = r.count; kind = kind_from r.kind; home = r.home }

-- over the link, or without the peer
abbrev pub kind_of : Bool → CompletionKind
kind_of true = Linked
kind_of false = Alone

-- the receipt of an accepted write, if it was completed
abbrev pub receipt_in : ℕ → JournalEntry → Option model.Receipt
receipt_in number entry = elim entry.fate [
  | Open ↦ None
  | Failed ↦ None
  | Completed linked home ↦ Some (record {
    number = number;
    first = entry.first;
    count = entry.count;
    kind = kind_of linked;
    home = home;
  })
]

-- the receipt is that of this entry, but for the number
abbrev pub is_entry_of : JournalEntry → model.Receipt → Bool
is_entry_of entry receipt = elim entry.fate [
  | Open ↦ false
  | Failed ↦ false
  | Completed linked home ↦ ((entry.first == receipt.first) && (entry.count == receipt.count))
      && (model.same_kind (kind_of linked) receipt.kind && model.same_home home receipt.home)
]

-- the receipt is that of a completed write
abbrev pub is_found : model.Receipt → PrimaryState → Bool
is_found receipt s = elim (entry_at receipt.number s) [ None ↦ false | Some entry ↦ is_entry_of entry receipt ]
