-- A secondary with its disk and both ends of its link, and the model histories that it refines.
use Rattle.std.specs.Prelude.{ℕ, ◌≡◌, List, take, slice_get}
use Rattle.blocks.specs.SettingsRange.{IsInRange}
use Rattle.blocks.specs.declared.tuple.Tuple.{Tuple}
use Rattle.blocks.specs.declared.settings.Settings.{Settings}
use Rattle.blocks.specs.declared.outcome.Reply.{Reply}
use Rattle.model.specs.Contents.{BlockMap, IsDisk}
use Rattle.model.specs.Frames.{Packet, Received}
use Rattle.model.specs.Secondary.{SecondaryHistory, secondary_opening, secondary_map, secondary_connection, answers_due}
use Rattle.model.specs.SecondarySteps as step
use Rattle.model.specs.LocalRuns.{SecondaryEvent, OpensToo, Receives, Applies, FailsToApply, Acknowledges, ClosesToo, secondary_run}
use Rattle.secondary_protocol.specs.Core.{SecondaryState}
use Rattle.secondary_protocol.specs.Leaves.{Leaves}

-- The secondary, the blocks of its disk, and what was pushed and taken on the present or last connection.
pub record NodeState : Type 0 where
  pub core : SecondaryState
  pub disk : List (List ℕ)
  pub pushed : List Packet
  pub taken : List Received

-- the model's step of an event
abbrev pub secondary_step : SecondaryEvent → SecondaryHistory → Reply × SecondaryHistory
secondary_step (OpensToo unseen) h = step.open_secondary unseen h
secondary_step (Receives frame out_of_memory) h = step.receive frame out_of_memory h
secondary_step (Applies place) h = step.peer place h
secondary_step (FailsToApply place offsets) h = step.peer_fault place offsets h
secondary_step (Acknowledges room out_of_memory) h = step.ack_out room out_of_memory h
secondary_step ClosesToo h = step.close_secondary h

-- the node is what the history leaves
pub record NodeLeaves (n : NodeState) (h : SecondaryHistory) : Type 0 where
  pub core : Leaves n.core h
  pub disk : (block : ℕ) → slice_get n.disk block ≡ secondary_map h block
  pub pushed : n.pushed ≡ take (secondary_connection h).pushed (answers_due h.settings (secondary_connection h))
  pub taken : n.taken ≡ (secondary_connection h).taken

-- Some events lead to the history from an opening, whose settings are in their ranges and whose disk has their size.
pub record IsReached (h : SecondaryHistory) : Type 0 where
  pub settings : Settings
  pub in_range : IsInRange settings
  pub disk : BlockMap
  pub sized : IsDisk settings.blocks disk
  pub tuple : Tuple
  pub events : List SecondaryEvent
  pub reached : h ≡ secondary_run events (secondary_opening settings disk tuple)

-- the node refines this history, which some run of a secondary reaches
pub record NodeHas (n : NodeState) (h : SecondaryHistory) : Type 0 where
  pub leaves : NodeLeaves n h
  pub reached : IsReached h

-- Invariant: the node refines some model history.
pub record NodeIsHad (n : NodeState) : Type 0 where
  pub history : SecondaryHistory
  pub has : NodeHas n history

-- The call was this step of the model, for every history that the node refined.
pub record IsStep (step : SecondaryHistory → Reply × SecondaryHistory) (n : NodeState) (reply : Reply) (next : NodeState) : Type 0 where
  pub replies : (h : SecondaryHistory) → NodeHas n h → reply ≡ (step h).0
  pub after : (h : SecondaryHistory) → NodeHas n h → NodeHas next (step h).1

-- the call was the event's step
abbrev pub NodeSteps : SecondaryEvent → NodeState → Reply → NodeState → Type 0
NodeSteps event = IsStep (secondary_step event)
