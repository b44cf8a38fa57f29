-- The calls of a node whose outcome depends on the link or the disk.
use Rattle.std.specs.Prelude.{ℕ, ◌≡◌, ◌<◌, ◌&&◌, ◌⊎◌, List, Option, is_none, Result}
use Rattle.blocks.specs.declared.refusal.Refusal.{Refusal}
use Rattle.blocks.specs.declared.outcome.Done.{Done}
use Rattle.model.specs.Frames.{Received}
use Rattle.model.specs.LocalRuns.{Receives, Applies, FailsToApply}
use Rattle.endpoint.specs.Calls.{Takes, is_out_of_memory}
use Rattle.secondary_protocol.specs.Node.{NodeSteps}
use Rattle.secondary_protocol.specs.Steps.{replied}
use Rattle.secondary.specs.State.{SecondaryView, node}

-- The call was the node's step of taking some frame, or none. Memory is refused only before a frame is taken.
pub record ReceivesOne (result : Result Done Refusal) (old new : SecondaryView) : Type 0 where
  pub frame : Option Received
  pub link : Takes frame result old.incoming new.incoming
  pub step : NodeSteps (Receives frame (is_none frame && is_out_of_memory result)) (node old) (replied (λ done. done) result) (node new)

-- The disk finished the item at this place, or failed in this call after any of its blocks were written.
abbrev pub AppliesOne : ℕ → Result Done Refusal → SecondaryView → SecondaryView → Type 0
AppliesOne place result old new =
    ((new.faults ≡ old.faults) × NodeSteps (Applies place) (node old) (replied (λ done. done) result) (node new))
    ⊎ ((old.faults < new.faults) × ((offsets : List ℕ) × NodeSteps (FailsToApply place offsets) (node old) (replied (λ done. done) result) (node new)))
