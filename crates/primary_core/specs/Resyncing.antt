-- Which block a resync copies next, or why none.
use Rattle.std.specs.Prelude.{ℕ, Bool, Some, None, Result, Err, ok_or}
use Rattle.blocks.specs.declared.refusal.Refusal.{Refusal}
use Rattle.blocks.specs.declared.refusal.Refusal.TheVariants.{NotConnected, NothingToDo}
use Rattle.model.specs.Refusals.{first_refusal}
use Rattle.resync.specs.Next.{next_block}
use Rattle.primary_protocol.specs.Core.{PrimaryState}
use Rattle.primary_protocol.specs.Transitions.{resync_tests}

-- the lowest marked block that no interval covers, if no test refuses it
abbrev pub resync_choice : Bool → PrimaryState → Result ℕ Refusal
resync_choice out_of_memory s = elim s.end [
  | None ↦ Err NotConnected
  | Some e ↦ elim (first_refusal (resync_tests out_of_memory e s)) [ Some refusal ↦ Err refusal | None ↦ ok_or (next_block s.marks s.held) NothingToDo ]
]
