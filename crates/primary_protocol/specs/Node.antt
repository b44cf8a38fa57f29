-- A primary with its disk and both ends of its link, and the model histories that it refines.
use Rattle.std.specs.Prelude.{ℕ, ◌≡◌, Bool, IsTrue, List, take, slice_get, Result}
use Rattle.std.specs.Result.{result_map_both}
use Rattle.blocks.specs.declared.refusal.Refusal.{Refusal}
use Rattle.blocks.specs.declared.outcome.What.TheVariants as what
use Rattle.blocks.specs.declared.outcome.Reply.{Reply}
use Rattle.blocks.specs.declared.outcome.Reply.TheVariants as reply
use Rattle.model.specs.Frames.{Packet, Received}
use Rattle.model.specs.Primary.{PrimaryHistory, local_map, primary_connection, frames_due}
use Rattle.model.specs.PrimarySteps as step
use Rattle.model.specs.Acknowledgements as step_in
use Rattle.model.specs.Refusals.{done_with}
use Rattle.model.specs.Settlement.{Receipt, receipt_of}
use Rattle.model.specs.LocalRuns.{PrimaryEvent, Opens, Submits, WritesLocally, FailsLocally, Sends, Takes, Resyncs, FailsResync, Closes, Receipts}
use Rattle.primary_protocol.specs.Core.{PrimaryState}
use Rattle.primary_protocol.specs.Leaves.{Leaves}
use Rattle.primary_protocol.specs.Steps.{IsReached}

-- The primary, the blocks of its disk, what was pushed and taken on the present or last connection, and whether each read of the disk
-- gave what it holds.
pub record NodeState : Type 0 where
  pub core : PrimaryState
  pub disk : List (List ℕ)
  pub pushed : List Packet
  pub taken : List Received
  pub faithful : Bool

-- the node is what the history leaves
pub record NodeLeaves (n : NodeState) (h : PrimaryHistory) : Type 0 where
  pub core : Leaves n.core h
  pub disk : (block : ℕ) → slice_get n.disk block ≡ local_map h block
  pub pushed : n.pushed ≡ take (primary_connection h).pushed (frames_due h.settings (primary_connection h))
  pub taken : n.taken ≡ (primary_connection h).taken
  pub faithful : IsTrue n.faithful → IsTrue h.faithful

-- the node refines this history, which some run of a primary reaches
pub record NodeHas (n : NodeState) (h : PrimaryHistory) : Type 0 where
  pub leaves : NodeLeaves n h
  pub reached : IsReached h

-- Invariant: the node refines some model history.
pub record NodeIsHad (n : NodeState) : Type 0 where
  pub history : PrimaryHistory
  pub has : NodeHas n history

-- The call was this step of the model, for every history that the node refined.
pub record IsStep {R : Type 0} (step : PrimaryHistory → R × PrimaryHistory) (n : NodeState) (result : R) (next : NodeState) : Type 0 where
  pub replies : (h : PrimaryHistory) → NodeHas n h → result ≡ (step h).0
  pub after : (h : PrimaryHistory) → NodeHas n h → NodeHas next (step h).1

-- the model's step of an event; taking a receipt gives no reply of its own
abbrev pub primary_step : PrimaryEvent → PrimaryHistory → Reply × PrimaryHistory
primary_step (Opens sync loss out_of_memory) h = step.open_primary sync loss out_of_memory h
primary_step (Submits first contents out_of_memory) h = step.submit first contents out_of_memory h
primary_step (WritesLocally number) h = step.local_done number h
primary_step (FailsLocally number offsets) h = step.local_fault number offsets h
primary_step (Sends room out_of_memory) h = step.send room out_of_memory h
primary_step (Takes frame out_of_memory) h = step_in.ack_in frame out_of_memory h
primary_step (Resyncs read out_of_memory) h = step.resync_next read out_of_memory h
primary_step (FailsResync out_of_memory) h = step.resync_fault out_of_memory h
primary_step Closes h = step.close_primary h
primary_step (Receipts number) h = (reply.Ok (done_with what.Nothing), (step.take_completed number h).1)

-- the call was the event's step
abbrev pub NodeSteps : PrimaryEvent → NodeState → Reply → NodeState → Type 0
NodeSteps event = IsStep (primary_step event)

-- the receipt of a completed write, once
abbrev pub take_receipt : ℕ → PrimaryHistory → Result Receipt Refusal × PrimaryHistory
take_receipt number h = let answer = step.take_completed number h in (result_map_both receipt_of (λ e. e) answer.0, answer.1)
