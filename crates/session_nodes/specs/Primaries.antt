-- A primary whose connections all went over one link.
use Rattle.std.specs.Prelude.{ℕ, suc, ◌≡◌, ◌<◌, List, take, Some, None, slice_get, length, true, false, ◌&&◌, All, Option, is_none, IsTrue, Result}
use Rattle.model.specs.Contents.{IsRead}
use Rattle.model.specs.Primary.{PrimaryConnection, PrimaryHistory, primary_connection_at, frames_due, local_map}
use Rattle.model.specs.Frames.{Packet, Received}
use Rattle.model.specs.LocalRuns.{PrimaryEvent, Closes, Submits, Takes, primary_run}
use Rattle.model.specs.Theorems.{Opening, primary_at}
use Rattle.blocks.specs.declared.refusal.Refusal.{Refusal}
use Rattle.blocks.specs.declared.outcome.Done.{Done}
use Rattle.blocks.specs.declared.outcome.Reply.{Reply}
use Rattle.blocks.specs.declared.outcome.Reply.TheVariants as reply
use Rattle.blocks.specs.declared.outcome.What.TheVariants as what
use Rattle.endpoint.specs.Calls as link
use Rattle.endpoint.specs.Calls.{is_out_of_memory}
use Rattle.primary_protocol.specs.Node.{NodeHas, primary_step}
use Rattle.primary_protocol.specs.Steps.{replied}
use Rattle.primary_protocol.specs.Transitions.{whole_blocks}
use Rattle.primary.specs.State.{PrimaryView, node}
use Rattle.primary.specs.Work.{IsWork}
use Rattle.session_nodes.specs.Traffic.{KnowTraffic}

-- what the history pushed on the connection with this number, the present one or an earlier one
abbrev pub sent : PrimaryHistory → ℕ → List Packet
sent h number = take (primary_connection_at h number).pushed (frames_due h.settings (primary_connection_at h number))

-- what the history took on it
abbrev pub came : PrimaryHistory → ℕ → List Received
came h number = (primary_connection_at h number).taken

-- Every connection of the history went over the ends that the node has: for each number, what went out there is what
-- the history pushed, and what came in is what it took. The ends are on the last connection, and the earlier ones are
-- closed.
pub record PrimaryOver (v : PrimaryView) (h : PrimaryHistory) : Type 0 where
  pub traffic : KnowTraffic v.outgoing v.incoming (length h.connections) (sent h) (came h)
  pub opened : 0 < length h.connections
  pub ended : (k : ℕ) (c : PrimaryConnection) → suc k < length h.connections → slice_get h.connections k ≡ Some c → c.closed ≡ true

-- the node refines this history, and all of its connections went over the node's ends
pub record PrimaryHas (v : PrimaryView) (h : PrimaryHistory) : Type 0 where
  pub has : NodeHas (node v) h
  pub over : PrimaryOver v h

-- the history is that of a run from this opening, if the opening is known
abbrev pub PrimaryBegan : Option Opening → PrimaryHistory → Type 0
PrimaryBegan None h = Unit {0}
PrimaryBegan (Some opening) h = (events : List PrimaryEvent) × (h ≡ primary_run events (primary_at opening))

-- Invariant of the locked primary: it refines some such history, which began with this opening.
pub record PrimaryIsHad (opening : Option Opening) (v : PrimaryView) : Type 0 where
  pub history : PrimaryHistory
  pub has : PrimaryHas v history
  pub began : PrimaryBegan opening history

-- The call was this step of the model, for every such history that the node refined.
pub record IsPrimaryStep {Returned : Type 0} (step : PrimaryHistory → Returned × PrimaryHistory) (v : PrimaryView) (returned : Returned)
    (w : PrimaryView) : Type 0 where
  pub replies : (h : PrimaryHistory) → PrimaryHas v h → returned ≡ (step h).0
  pub after : (h : PrimaryHistory) → PrimaryHas v h → PrimaryHas w (step h).1

-- the call was the event's step
abbrev pub PrimarySteps : PrimaryEvent → PrimaryView → Reply → PrimaryView → Type 0
PrimarySteps event = IsPrimaryStep (primary_step event)

-- From every such history that the node refined, some steps of its work lead to one that it refines now.
abbrev pub PrimaryRuns : PrimaryView → PrimaryView → Type 0
PrimaryRuns v w = (h : PrimaryHistory) → PrimaryHas v h
    → (events : List PrimaryEvent) × (All IsWork events × PrimaryHas w (primary_run events h))

-- A step that no caller asks for: the node's own work, or a close of its end.
abbrev pub IsOwnStep : PrimaryEvent → Type 0
IsOwnStep Closes = Unit {0}
IsOwnStep event = IsWork event

-- From every such history that the node refined, some steps that no caller asked for lead to one that it refines now; and its disk is
-- faithful only if it was.
pub record PrimaryGoesOn (v w : PrimaryView) : Type 0 where
  pub leads : (h : PrimaryHistory) → PrimaryHas v h → (events : List PrimaryEvent) × (All IsOwnStep events × PrimaryHas w (primary_run events h))
  pub falls : IsTrue w.faithful → IsTrue v.faithful

-- The call was the step of taking some frame, or none.
pub record PrimaryTakes (result : Result Done Refusal) (v w : PrimaryView) : Type 0 where
  pub frame : Option Received
  pub link : link.Takes frame result v.incoming w.incoming
  pub step : PrimarySteps (Takes frame (is_none frame && is_out_of_memory result)) v (replied reply.Ok result) w

-- Some primary that began with this opening accepted a write of these bytes from block `first` on, under this number, by the model's
-- step (this project's rule).
pub record HasAccepted (opening : Option Opening) (number first : ℕ) (bytes : List ℕ) : Type 0 where
  pub before : PrimaryHistory
  pub began : PrimaryBegan opening before
  pub done : Done
  pub replied : (primary_step (Submits first (whole_blocks bytes) false) before).0 ≡ reply.Ok done
  pub write : done.what ≡ what.Write number

-- the disk of some primary that began with this opening held these bytes in `count` blocks from block `first` on
pub record HasHeld (opening : Option Opening) (first count : ℕ) (bytes : List ℕ) : Type 0 where
  pub history : PrimaryHistory
  pub began : PrimaryBegan opening history
  pub read : IsRead (local_map history) first count bytes
