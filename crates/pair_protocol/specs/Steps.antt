-- The nodes' calls over a link are the pair's steps, and what holds of every history of a pair.
use Rattle.std.specs.Prelude.{◌≡◌, ◌&&◌, ◌∷◌, ◌++◌, [], List, Bool, Option, Some, is_none, Result, IsTrue}
use Rattle.blocks.specs.declared.refusal.Refusal.{Refusal}
use Rattle.blocks.specs.declared.outcome.Done.{Done}
use Rattle.blocks.specs.declared.outcome.Reply.TheVariants as reply
use Rattle.model.specs.Frames.{Received}
use Rattle.model.specs.Headline.{TakesABeginning, StaysClosed, StaysClosedToo, HoldsEarlierEpochs, KeepsPromises, MarksDifferences, CoversDifferences}
use Rattle.model.specs.Headline.{IsGrounded}
use Rattle.model.specs.LocalRuns.{Sends, Takes, Receives, Acknowledges}
use Rattle.model.specs.Pair.{Event, SendEvent, ReceiveEvent, AckOutEvent, AckInEvent, PairHistory, run}
use Rattle.model.specs.WriteOrder.{KeepsWriteOrder, IsUnharmed}
use Rattle.endpoint.specs.Calls as link
use Rattle.endpoint.specs.Calls.{has_room, is_out_of_memory}
use Rattle.primary_protocol.specs.Node as primary
use Rattle.primary_protocol.specs.Steps as from_primary
use Rattle.secondary_protocol.specs.Node as secondary
use Rattle.secondary_protocol.specs.Steps as from_secondary
use Rattle.pair_protocol.specs.Carried.{Gave}
use Rattle.pair_protocol.specs.State.{IsDirection, IsPairStep, IsRun, PairState, WasHonest, primary_of, secondary_of}

-- The primary's send is the pair's step: the link is full exactly if as many frames are on their way as it holds.
abbrev pub SendsAreSteps : Type 0
SendsAreSteps =
    (p q : PairState) (result : Result Done Refusal) → IsDirection p.primary.settings.link p.there → link.Sends result p.there.out q.there.out
    → primary.NodeSteps (Sends (has_room result) (is_out_of_memory result)) (primary_of p) (from_primary.replied reply.Ok result) (primary_of q)
    → secondary_of p ≡ secondary_of q
    → IsPairStep SendEvent (is_out_of_memory result) p (from_primary.replied reply.Ok result) q

-- the same of the secondary's send
abbrev pub AnswersAreSteps : Type 0
AnswersAreSteps =
    (p q : PairState) (result : Result Done Refusal) → IsDirection p.secondary.settings.link p.back → link.Sends result p.back.out q.back.out
    → secondary.NodeSteps (Acknowledges (has_room result) (is_out_of_memory result)) (secondary_of p) (from_secondary.replied (λ done. done) result)
    (secondary_of q)
    → primary_of p ≡ primary_of q
    → IsPairStep AckOutEvent (is_out_of_memory result) p (from_secondary.replied (λ done. done) result) q

-- The secondary's receive is the pair's step: it takes the next frame that the primary pushed.
abbrev pub ReceivesAreSteps : Type 0
ReceivesAreSteps =
    (p q : PairState) (result : Result Done Refusal) (frame : Option Received) → Gave frame result p.there
    → secondary.NodeSteps (Receives frame (is_none frame && is_out_of_memory result)) (secondary_of p) (from_secondary.replied (λ done. done) result)
    (secondary_of q)
    → ((one : Received) → frame ≡ Some one → (secondary_of q).taken ≡ (secondary_of p).taken ++ one ∷ []) → primary_of p ≡ primary_of q
    → IsPairStep ReceiveEvent (is_out_of_memory result) p (from_secondary.replied (λ done. done) result) q

-- the same of the primary's receive
abbrev pub AcknowledgesAreSteps : Type 0
AcknowledgesAreSteps =
    (p q : PairState) (result : Result Done Refusal) (frame : Option Received) → Gave frame result p.back
    → primary.NodeSteps (Takes frame (is_none frame && is_out_of_memory result)) (primary_of p) (from_primary.replied reply.Ok result) (primary_of q)
    → ((one : Received) → frame ≡ Some one → (primary_of q).taken ≡ (primary_of p).taken ++ one ∷ []) → secondary_of p ≡ secondary_of q
    → IsPairStep AckInEvent (is_out_of_memory result) p (from_primary.replied reply.Ok result) q

-- What holds of every history that a list of events leads to: its resyncs copied what the local disk had, the headline clause by clause, the cover and the
-- write order, and that their premises are kept.
pub record HasClauses (h : PairHistory) : Type 0 where
  pub faithful : IsTrue h.primary.faithful
  pub beginning : TakesABeginning h.primary h.secondary
  pub closed : (more : List (Event × Bool)) → StaysClosed h.primary (run more h).1.primary × StaysClosedToo h.secondary (run more h).1.secondary
  pub epochs : HoldsEarlierEpochs h.secondary
  pub promises : KeepsPromises h.primary h.secondary
  pub marks : WasHonest h → MarksDifferences h.primary h.secondary
  pub cover : WasHonest h → CoversDifferences h.primary h.secondary
  pub order : WasHonest h → IsUnharmed h.primary h.secondary → KeepsWriteOrder h.primary h.secondary
  -- no event changes the opening, and a grounded history stays grounded
  pub honest : (more : List (Event × Bool)) → WasHonest h → WasHonest (run more h).1
  pub grounded : (more : List (Event × Bool)) → IsGrounded h.primary h.secondary → IsGrounded (run more h).1.primary (run more h).1.secondary

-- every history of a run has these clauses
abbrev pub RunsHaveClauses : Type 0
RunsHaveClauses = (h : PairHistory) → IsRun h → HasClauses h
