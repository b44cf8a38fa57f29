-- What callers were told, one thing after another, on the way of one history.
use Rattle.std.specs.Prelude.{ℕ, ◌≡◌, Bool, true, false, List, [], ◌∷◌, ◌++◌, Ok, Some, IsTrue, slice_get}
use Rattle.blocks.specs.declared.outcome.Done.{Done}
use Rattle.blocks.specs.declared.outcome.Reply.TheVariants as reply
use Rattle.blocks.specs.declared.outcome.What.TheVariants as what
use Rattle.model.specs.Contents.{IsRead, covers}
use Rattle.model.specs.LocalRuns.{PrimaryEvent, Submits, primary_run}
use Rattle.model.specs.Primary.{Accepted as Entry, PrimaryHistory, is_waiting, local_map}
use Rattle.model.specs.Settlement.{Receipt}
use Rattle.device_parts.specs.Places.{laid_over}
use Rattle.primary_protocol.specs.Node.{primary_step, take_receipt}
use Rattle.primary_protocol.specs.Transitions.{whole_blocks}
use Rattle.told.specs.declared.entry.Told.{Told}
use Rattle.told.specs.declared.entry.Told.TheVariants.{Accepted, Given, Held, Patched}

-- some events lead from one history to the other
abbrev pub Leads : PrimaryHistory → PrimaryHistory → Type 0
Leads h later = (events : List PrimaryEvent) × (later ≡ primary_run events h)

-- a write of these bytes from a block on was accepted under this number
abbrev pub IsSubmitted : ℕ → ℕ → List ℕ → PrimaryHistory → PrimaryHistory → Type 0
IsSubmitted number first bytes h after =
    (done : Done) × (reply.Ok done ≡ (primary_step (Submits first (whole_blocks bytes) false) h).0) × (done.what ≡ what.Write number)
    × (after ≡ (primary_step (Submits first (whole_blocks bytes) false) h).1)

-- no accepted write of the block still waits for the disk
abbrev pub IsSettled : PrimaryHistory → ℕ → Type 0
IsSettled h block = (i : ℕ) (entry : Entry) → slice_get h.writes i ≡ Some entry → covers entry.write block ≡ true → is_waiting entry.outcome ≡ false

-- A write of one block was accepted, of these bytes from its byte `from` on, and around them of what the disk held there; and no write of
-- the block that was accepted before still waited for the disk.
pub record IsPatching (faithful : Bool) (number block from : ℕ) (bytes : List ℕ) (h after : PrimaryHistory) : Type 0 where
  pub old : List ℕ
  pub read : IsTrue faithful → IsRead (local_map h) block 1 old
  pub settled : IsSettled h block
  pub submitted : IsSubmitted number block (laid_over from bytes old) h after

-- What is told was so at this moment: the first history is the one at which the model's step was made that says it, the second the one
-- right after it. A read is no step, and it says what the disk held if each read of the disk so far gave what was written (`faithful`).
abbrev pub Happens : Bool → Told → PrimaryHistory → PrimaryHistory → Type 0
Happens faithful (Accepted number first bytes) h after = IsSubmitted number first bytes h after
Happens faithful (Patched number block from bytes) h after = IsPatching faithful number block from bytes h after
Happens faithful (Given receipt) h after = (Ok receipt ≡ (take_receipt receipt.number h).0) × (after ≡ (take_receipt receipt.number h).1)
Happens faithful (Held first count bytes) h after = (IsTrue faithful → IsRead (local_map h) first count bytes) × (after ≡ h)

-- On the way from one history to the other all of this was told, in this order.
abbrev pub AreTold : Bool → List Told → PrimaryHistory → PrimaryHistory → Type 0
AreTold faithful [] h later = Leads h later
AreTold faithful (one ∷ rest) h later =
    (before : PrimaryHistory) × (after : PrimaryHistory) × Leads h before × Happens faithful one before after × AreTold faithful rest after later

-- A caller has seen more, at last this.
abbrev pub Extends : List Told → Told → List Told → Type 0
Extends seen one seen_later = (between : List Told) × (seen_later ≡ (seen ++ between) ++ one ∷ [])

-- it was told, with these things told before and after it
abbrev pub WasTold : List Told → Told → Type 0
WasTold log one = (before : List Told) × (after : List Told) × (log ≡ before ++ one ∷ after)

-- the last thing that a caller was told
abbrev pub EndsWith : List Told → Told → Type 0
EndsWith seen one = (earlier : List Told) × (seen ≡ earlier ++ one ∷ [])

-- by this log, a write of these bytes from a block on was accepted under this number
abbrev pub SaysAccepted : List Told → ℕ → ℕ → List ℕ → Type 0
SaysAccepted log number first bytes = WasTold log (Accepted number first bytes)

-- by this log, a write of these bytes within a block, from its byte `from` on, was accepted under this number
abbrev pub SaysPatched : List Told → ℕ → ℕ → ℕ → List ℕ → Type 0
SaysPatched log number block from bytes = WasTold log (Patched number block from bytes)

-- by this log, this receipt was given
abbrev pub SaysGiven : List Told → Receipt → Type 0
SaysGiven log receipt = WasTold log (Given receipt)

-- by this log, the disk held these bytes in `count` blocks from a block on
abbrev pub SaysHeld : List Told → ℕ → ℕ → List ℕ → Type 0
SaysHeld log first count bytes = WasTold log (Held first count bytes)

-- since such a beginning of the log was seen, the disk held these bytes in `count` blocks from a block on
abbrev pub SaysHeldSince : List Told → List Told → ℕ → ℕ → List ℕ → Type 0
SaysHeldSince seen log first count bytes =
    (before : List Told) × (after : List Told) × (log ≡ (seen ++ before) ++ Held first count bytes ∷ after)
