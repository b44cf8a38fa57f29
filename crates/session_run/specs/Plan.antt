-- The receipts of a run's writes.
use Rattle.std.specs.Prelude.{ℕ, ◌≡◌, ◌<◌, ◌+◌, ◌*◌, ◌%◌, List, Some, length, replicate, slice_get}
use Rattle.model.specs.Settlement.{Receipt}
use Rattle.program_values.specs.declared.run_options.RunOptions.{RunOptions}
use Rattle.told.specs.declared.entry.Told.{Told}
use Rattle.told.specs.Log.{SaysAccepted}

-- The receipt is that of a writer's turn: it names the one block that the plan names, and for this block and under its number a
-- block full of the turn's byte was accepted.
pub record IsOfTurn (accepts : ℕ → ℕ → List ℕ → Type 0) (options : RunOptions) (writer turn : ℕ) (receipt : Receipt) : Type 0 where
  pub first : receipt.first ≡ (writer * options.writes + turn) % options.blocks
  pub count : receipt.count ≡ 1
  pub accepted : accepts receipt.number receipt.first (replicate 4096 ((writer + turn + 1) % 256))

-- those of one writer, in the order of its turns
abbrev pub AreOfWriter : (ℕ → ℕ → List ℕ → Type 0) → RunOptions → ℕ → List Receipt → Type 0
AreOfWriter accepts options writer receipts =
    (turn : ℕ) (receipt : Receipt) → slice_get receipts turn ≡ Some receipt → IsOfTurn accepts options writer turn receipt

-- those of all writers, one writer after another
abbrev pub AreOfPlan : (ℕ → ℕ → List ℕ → Type 0) → RunOptions → List Receipt → Type 0
AreOfPlan accepts options receipts = (writer turn : ℕ) (receipt : Receipt) → turn < options.writes
    → slice_get receipts (writer * options.writes + turn) ≡ Some receipt → IsOfTurn accepts options writer turn receipt

-- what a writer has done: the receipts of its writes, and all that it was told
pub record WrittenState : Type 0 where
  pub receipts : List Receipt
  pub log : List Told

-- It has made each write of the plan, and was told that each was accepted.
pub record IsWriter (options : RunOptions) (writer : ℕ) (written : WrittenState) : Type 0 where
  pub count : length written.receipts ≡ options.writes
  pub plan : AreOfWriter (SaysAccepted written.log) options writer written.receipts

-- what all writers have done, one writer after another
abbrev pub AreWriters : RunOptions → List WrittenState → Type 0
AreWriters options all = (writer : ℕ) (written : WrittenState) → slice_get all writer ≡ Some written → IsWriter options writer written
