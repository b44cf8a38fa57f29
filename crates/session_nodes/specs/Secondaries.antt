-- A secondary whose connections all went over one link.
use Rattle.std.specs.Prelude.{ℕ, suc, ◌≡◌, ◌<◌, ◌&&◌, All, List, take, Option, Some, None, Result, is_none, slice_get, length, true}
use Rattle.model.specs.Secondary.{SecondaryConnection, SecondaryHistory, secondary_connection, secondary_connection_at, answers_due}
use Rattle.model.specs.Frames.{Packet, Received}
use Rattle.model.specs.LocalRuns.{SecondaryEvent, Receives, secondary_run}
use Rattle.model.specs.Theorems.{Opening, secondary_at}
use Rattle.blocks.specs.declared.refusal.Refusal.{Refusal}
use Rattle.blocks.specs.declared.outcome.Done.{Done}
use Rattle.blocks.specs.declared.outcome.Reply.{Reply}
use Rattle.endpoint.specs.Calls as link
use Rattle.endpoint.specs.Calls.{is_out_of_memory}
use Rattle.secondary_protocol.specs.Node.{NodeHas, secondary_step}
use Rattle.secondary_protocol.specs.Steps.{replied}
use Rattle.secondary.specs.State.{SecondaryView, node}
use Rattle.secondary.specs.Work.{IsWork}
use Rattle.session_nodes.specs.Traffic.{KnowTraffic}

-- what the history pushed on the connection with this number, the present one or an earlier one
abbrev pub sent : SecondaryHistory → ℕ → List Packet
sent h number = take (secondary_connection_at h number).pushed (answers_due h.settings (secondary_connection_at h number))

-- what the history took on it
abbrev pub came : SecondaryHistory → ℕ → List Received
came h number = (secondary_connection_at h number).taken

-- Every connection of the history went over the ends that the node has: for each number, what went out there is what
-- the history pushed, and what came in is what it took. The ends are on the last connection, and the earlier ones are
-- closed.
pub record SecondaryOver (v : SecondaryView) (h : SecondaryHistory) : Type 0 where
  pub traffic : KnowTraffic v.outgoing v.incoming (secondary_connection h).number (sent h) (came h)
  pub opened : 0 < length h.connections
  pub ended : (k : ℕ) (d : SecondaryConnection) → suc k < length h.connections → slice_get h.connections k ≡ Some d → d.closed ≡ true

-- the node refines this history, and all of its connections went over the node's ends
pub record SecondaryHas (v : SecondaryView) (h : SecondaryHistory) : Type 0 where
  pub has : NodeHas (node v) h
  pub over : SecondaryOver v h

-- the history is that of a run from this opening, if the opening is known
abbrev pub SecondaryBegan : Option Opening → SecondaryHistory → Type 0
SecondaryBegan None h = Unit {0}
SecondaryBegan (Some opening) h = (events : List SecondaryEvent) × (h ≡ secondary_run events (secondary_at opening))

-- Invariant of the locked secondary: it refines some such history, which began with this opening.
pub record SecondaryIsHad (opening : Option Opening) (v : SecondaryView) : Type 0 where
  pub history : SecondaryHistory
  pub has : SecondaryHas v history
  pub began : SecondaryBegan opening history

-- The call was this step of the model, for every such history that the node refined.
pub record IsSecondaryStep {Returned : Type 0} (step : SecondaryHistory → Returned × SecondaryHistory) (v : SecondaryView) (returned : Returned)
    (w : SecondaryView) : Type 0 where
  pub replies : (h : SecondaryHistory) → SecondaryHas v h → returned ≡ (step h).0
  pub after : (h : SecondaryHistory) → SecondaryHas v h → SecondaryHas w (step h).1

-- the call was the event's step
abbrev pub SecondarySteps : SecondaryEvent → SecondaryView → Reply → SecondaryView → Type 0
SecondarySteps event = IsSecondaryStep (secondary_step event)

-- From every such history that the node refined, some steps of its work lead to one that it refines now.
abbrev pub SecondaryRuns : SecondaryView → SecondaryView → Type 0
SecondaryRuns v w = (h : SecondaryHistory) → SecondaryHas v h
    → (events : List SecondaryEvent) × (All IsWork events × SecondaryHas w (secondary_run events h))

-- The call was the step of taking some frame, or none.
pub record SecondaryReceives (result : Result Done Refusal) (v w : SecondaryView) : Type 0 where
  pub frame : Option Received
  pub link : link.Takes frame result v.incoming w.incoming
  pub step : SecondarySteps (Receives frame (is_none frame && is_out_of_memory result)) v (replied (λ done. done) result) w
