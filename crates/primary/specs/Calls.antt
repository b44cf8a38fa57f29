-- The calls of a node whose outcome depends on the link or the disk.
use Rattle.std.specs.Prelude.{ℕ, ◌≡◌, ◌<◌, ◌&&◌, ◌⊎◌, IsTrue, List, Option, None, is_none, Result}
use Rattle.blocks.specs.declared.refusal.Refusal.{Refusal}
use Rattle.blocks.specs.declared.outcome.Done.{Done}
use Rattle.blocks.specs.declared.outcome.Reply.TheVariants as reply
use Rattle.model.specs.Frames.{Received}
use Rattle.model.specs.LocalRuns.{Takes, WritesLocally, FailsLocally, Resyncs, FailsResync}
use Rattle.endpoint.specs.Calls as link
use Rattle.endpoint.specs.Calls.{is_out_of_memory}
use Rattle.primary_protocol.specs.Node.{NodeSteps}
use Rattle.primary_protocol.specs.Steps.{replied}
use Rattle.primary.specs.State.{PrimaryView, node}

-- The call was the node's step of taking some frame, or none. Memory is refused only before a frame is taken.
pub record TakesOne (result : Result Done Refusal) (old new : PrimaryView) : Type 0 where
  pub frame : Option Received
  pub link : link.Takes frame result old.incoming new.incoming
  pub step : NodeSteps (Takes frame (is_none frame && is_out_of_memory result)) (node old) (replied reply.Ok result) (node new)

-- The disk finished the write of this number, or failed in this call after any of its blocks were written.
abbrev pub WritesOne : ℕ → Result Done Refusal → PrimaryView → PrimaryView → Type 0
WritesOne number result old new =
    ((new.faults ≡ old.faults) × NodeSteps (WritesLocally number) (node old) (replied reply.Ok result) (node new))
    ⊎ ((old.faults < new.faults) × ((offsets : List ℕ) × NodeSteps (FailsLocally number offsets) (node old) (replied reply.Ok result) (node new)))

-- The disk gave the block that a resync copies next, or other bytes in its place, and then it is not faithful; or it failed in this call.
abbrev pub CopiesOne : Result Done Refusal → PrimaryView → PrimaryView → Type 0
CopiesOne result old new =
    ((new.faults ≡ old.faults) × ((read : Option (List ℕ)) × (IsTrue new.faithful → read ≡ None)
    × NodeSteps (Resyncs read (is_out_of_memory result)) (node old) (replied reply.Ok result) (node new)))
    ⊎ ((old.faults < new.faults) × NodeSteps (FailsResync (is_out_of_memory result)) (node old) (replied reply.Ok result) (node new))
