-- Where what was told stands in a history.
use Rattle.std.specs.Prelude.{ℕ, suc, ◌≡◌, ◌<◌, ◌≤◌, ◌+◌, ◌-◌, Bool, true, false, List, ◌∷◌, ◌++◌, Some, slice_get, IsTrue}
use Rattle.blocks.specs.Contents.{blocks_of}
use Rattle.model.specs.Contents.{covers}
use Rattle.model.specs.Primary.{Accepted as Entry, Completion, PrimaryHistory}
use Rattle.model.specs.Settlement.{Receipt, receipt_of}
use Rattle.device_parts.specs.Places.{laid_over}
use Rattle.primary_protocol.specs.Transitions.{whole_blocks}
use Rattle.told.specs.declared.entry.Told.{Told}
use Rattle.told.specs.declared.entry.Told.TheVariants.{Accepted, Given, Held, Patched}
use Rattle.told.specs.Log.{Leads, Happens, WasTold}

-- The write stands in the history under its number, with its first block and these bytes.
abbrev pub IsWritten : PrimaryHistory → ℕ → ℕ → List ℕ → Type 0
IsWritten h number first bytes = (k : ℕ) × (number ≡ suc k) × (entry : Entry) × (slice_get h.writes k ≡ Some entry)
    × (entry.write ≡ record { number = number; first = first; contents = whole_blocks bytes })

-- The write stands in the history under its number, as one block of which these bytes, from its byte `from` on, are the caller's.
pub record IsPatched (h : PrimaryHistory) (number block from : ℕ) (bytes : List ℕ) : Type 0 where
  pub old : List ℕ
  pub written : IsWritten h number block (laid_over from bytes old)

-- The receipt is that of an entry of the journal.
abbrev pub IsEntry : PrimaryHistory → Receipt → Type 0
IsEntry h receipt = (k : ℕ) × (entry : Completion) × (slice_get h.journal k ≡ Some entry) × (receipt_of entry ≡ receipt)

-- What was told stands in the history: a write that was accepted, under its number and with its bytes, or with the block around them, and a
-- receipt, in the journal. What the disk held is no part of a history.
abbrev pub StandsIn : PrimaryHistory → Told → Type 0
StandsIn h (Accepted number first bytes) = IsWritten h number first bytes
StandsIn h (Patched number block from bytes) = IsPatched h number block from bytes
StandsIn h (Given receipt) = IsEntry h receipt
StandsIn h (Held first count bytes) = Unit {0}

-- The moment at which it was told, on the way from the start to this history: every write and every receipt that was told of before
-- stands in the history of that moment.
pub record Moment (faithful : Bool) (start : PrimaryHistory) (earlier : List Told) (one : Told) (h : PrimaryHistory) : Type 0 where
  pub before : PrimaryHistory
  pub after : PrimaryHistory
  pub reached : Leads start before
  pub happens : Happens faithful one before after
  pub leads : Leads after h
  pub writes : (number first : ℕ) (bytes : List ℕ) → WasTold earlier (Accepted number first bytes) → IsWritten before number first bytes
  pub patches : (number block from : ℕ) (bytes : List ℕ) → WasTold earlier (Patched number block from bytes)
      → IsPatched before number block from bytes
  pub receipts : (receipt : Receipt) → WasTold earlier (Given receipt) → IsEntry before receipt

-- All of the log stands in this history, which comes of the start: each write that was told of, under its number and with its bytes, and
-- each receipt, in the journal; and for each thing that was told there is the moment of it, in the order of the log.
pub record Stands (faithful : Bool) (start : PrimaryHistory) (log : List Told) (history : PrimaryHistory) : Type 0 where
  pub leads : Leads start history
  pub writes : (number first : ℕ) (bytes : List ℕ) → WasTold log (Accepted number first bytes) → IsWritten history number first bytes
  pub patches : (number block from : ℕ) (bytes : List ℕ) → WasTold log (Patched number block from bytes)
      → IsPatched history number block from bytes
  pub receipts : (receipt : Receipt) → WasTold log (Given receipt) → IsEntry history receipt
  pub moments : (earlier later : List Told) (one : Told) → log ≡ earlier ++ one ∷ later → Moment faithful start earlier one history

-- Read your writes: at the moment of a read, these bytes were there, in each block that no write of a later number covered by then.
abbrev pub ReadsOwn : PrimaryHistory → (receipt : Receipt) → (first : ℕ) → (bytes : List ℕ) → (at count : ℕ) → (found : List ℕ) → Type 0
ReadsOwn h receipt first bytes at count found = (offset : ℕ) → offset < count
    → covers (record { number = receipt.number; first = first; contents = whole_blocks bytes }) (at + offset) ≡ true
    → ((i : ℕ) (later : Entry) → receipt.number ≤ i → slice_get h.writes i ≡ Some later → covers later.write (at + offset) ≡ false)
    → slice_get (blocks_of 4096 found) offset ≡ slice_get (whole_blocks bytes) (at + offset - first)

-- The same of a write within a block: the block had what that write had around its bytes.
pub record ReadsOwnWithin (h : PrimaryHistory) (receipt : Receipt) (block from : ℕ) (bytes : List ℕ) (at count : ℕ) (found : List ℕ) : Type 0 where
  pub old : List ℕ
  pub own : ReadsOwn h receipt block (laid_over from bytes old) at count found

-- Each read that was told gives the bytes of each write of which both the number and the receipt were told before, as long as the disk's
-- reads gave what was written.
abbrev pub AllReadOwn : Bool → PrimaryHistory → List Told → PrimaryHistory → Type 0
AllReadOwn faithful start log h = (earlier later : List Told) (at count : ℕ) (found : List ℕ) → log ≡ earlier ++ Held at count found ∷ later
    → (moment : Moment faithful start earlier (Held at count found) h) × ((receipt : Receipt) (first : ℕ) (bytes : List ℕ)
    → WasTold earlier (Accepted receipt.number first bytes) → WasTold earlier (Given receipt) → IsTrue faithful
    → ReadsOwn moment.before receipt first bytes at count found)
    × ((receipt : Receipt) (block from : ℕ) (bytes : List ℕ)
    → WasTold earlier (Patched receipt.number block from bytes) → WasTold earlier (Given receipt) → IsTrue faithful
    → ReadsOwnWithin moment.before receipt block from bytes at count found)
