-- A settlement as its caller sees it, in plain values.
use Rattle.std.specs.Prelude.{ℕ, ◌≡◌, Bool, true, false, List, [], ◌∷◌, Some, slice_get, Result, Ok, Err}
use Rattle.blocks.specs.declared.refusal.Refusal.{Refusal}
use Rattle.blocks.specs.declared.refusal.Refusal.TheVariants.{ReadFault}
use Rattle.model.specs.Primary.{Completion, PrimaryHistory}
use Rattle.model.specs.Secondary.{SecondaryHistory, secondary_connection}
use Rattle.model.specs.Headline.{IsHonest, opening_marked}
use Rattle.model.specs.Settlement.{Receipt, Settlement, receipt_of}
use Rattle.model.specs.Theorems.{Opening, marks_at}
use Rattle.primary_protocol.specs.Core.{Completed, Failed, JournalEntry, Open}
use Rattle.settlement.specs.declared.settlement.Confirmed.{Confirmed}
use Rattle.settlement.specs.declared.settlement.Settled.{Settled}

-- the numbers of a settlement
abbrev pub numbers : Settled → Settlement
numbers n = record { sent = n.sent; taken = n.taken; applied = n.applied; confirmed = n.confirmed; unmarked = n.unmarked }

-- the result of a settlement
abbrev pub settled : Result Settled Refusal → Result Settlement Refusal
settled (Ok n) = Ok (numbers n)
settled (Err refusal) = Err refusal

-- the counts of a settlement without a comparison, with the unmarked blocks that differ
abbrev pub with_unmarked : ℕ → Confirmed → Settlement
with_unmarked unmarked n = record { sent = n.sent; taken = n.taken; applied = n.applied; confirmed = n.confirmed; unmarked = unmarked }

-- the result of such a settlement, with the unmarked blocks that differ
abbrev pub compared : ℕ → Result Confirmed Refusal → Result Settlement Refusal
compared unmarked (Ok n) = Ok (with_unmarked unmarked n)
compared unmarked (Err refusal) = Err refusal

-- the settlement was refused since a disk failed a read
abbrev pub is_read_fault : Result Settled Refusal → Bool
is_read_fault (Err ReadFault) = true
is_read_fault _ = false

-- The identifiers of both openings were honest: the primary had data, and if the peer's current identifier was the
-- primary's current or bitmap identifier, the disks differed only in marked blocks.
abbrev pub WereHonest : PrimaryHistory → SecondaryHistory → Type 0
WereHonest p s = IsHonest p.opening_tuple s.opening_tuple (opening_marked p) p.opening_map s.opening_map

-- the identifiers of this opening are honest
abbrev pub WasHonest : Opening → Type 0
WasHonest o = IsHonest o.own o.peer_tuple (marks_at o) o.local o.peer

-- A secondary's history with its last connection alone, the only one whose numbers are kept.
abbrev pub kept : SecondaryHistory → SecondaryHistory
kept s = record s { connections = secondary_connection s ∷ [] }

-- Each receipt is that of an entry of the primary's journal: its number, its range, its kind and its home. None is given twice, and so no
-- two are of the same entry.
pub record AreEntries (p : PrimaryHistory) (receipts : List Receipt) : Type 0 where
  pub each : (i : ℕ) (receipt : Receipt) → slice_get receipts i ≡ Some receipt
      → (n : ℕ) × (entry : Completion) × (slice_get p.journal n ≡ Some entry) × (receipt ≡ receipt_of entry)
  pub once : (i j : ℕ) (receipt : Receipt) → slice_get receipts i ≡ Some receipt → slice_get receipts j ≡ Some receipt → i ≡ j

-- what became of an accepted write is that it was completed
abbrev pub is_completed : JournalEntry → Bool
is_completed entry = elim entry.fate [ Open ↦ false | Failed ↦ false | Completed linked home ↦ true ]

-- Each entry of the journal has its receipt among these, by its number.
abbrev pub AreAll : PrimaryHistory → List Receipt → Type 0
AreAll p receipts = (n : ℕ) (entry : Completion) → slice_get p.journal n ≡ Some entry
    → (i : ℕ) × (receipt : Receipt) × (slice_get receipts i ≡ Some receipt) × (receipt.number ≡ entry.write.number)
