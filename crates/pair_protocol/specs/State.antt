-- A pair in plain values, and the model histories that it refines.
use Rattle.std.specs.Prelude.{ℕ, ◌≡◌, ◌≤◌, ◌-◌, Bool, true, false, List, [], ◌∷◌, ◌++◌, length, Option, Some, None}
use Rattle.blocks.specs.declared.refusal.Refusal.TheVariants.{NoMemory}
use Rattle.blocks.specs.declared.outcome.Reply.{Reply}
use Rattle.blocks.specs.declared.outcome.Reply.TheVariants as reply
use Rattle.model.specs.Contents.{IsDisk}
use Rattle.model.specs.Pair.{Event, PairHistory, step, run}
use Rattle.model.specs.Theorems.{Opening, pair_at, SharesSettings, HasRanges}
use Rattle.model.specs.Headline.{IsHonest, opening_marked}
use Rattle.endpoint.specs.Calls.{pushed_of, taken_of}
use Rattle.endpoint.specs.PacketReceiver.{PacketReceiverState}
use Rattle.endpoint.specs.Joined.{PacketsFollow}
use Rattle.endpoint.specs.PacketSender.{PacketSenderState}
use Rattle.primary_protocol.specs.Core.{PrimaryState}
use Rattle.primary_protocol.specs.Node as primary
use Rattle.secondary_protocol.specs.Core.{SecondaryState}
use Rattle.secondary_protocol.specs.Node as secondary

-- One direction of the link between the nodes: the side that sends, and the side that takes. There is none before the
-- first connection.
pub record Direction : Type 0 where
  pub out : Option PacketSenderState
  pub inn : Option PacketReceiverState

-- Both nodes' cores, the blocks of their disks, both directions of the link, and whether each read of the local disk gave what it holds.
pub record PairState : Type 0 where
  pub primary : PrimaryState
  pub local : List (List ℕ)
  pub secondary : SecondaryState
  pub peer : List (List ℕ)
  pub there : Direction
  pub back : Direction
  pub faithful : Bool

-- each node by itself
abbrev pub primary_of : PairState → primary.NodeState
primary_of p = record { core = p.primary; disk = p.local; pushed = pushed_of p.there.out; taken = taken_of p.back.inn; faithful = p.faithful }

abbrev pub secondary_of : PairState → secondary.NodeState
secondary_of p = record { core = p.secondary; disk = p.peer; pushed = pushed_of p.back.out; taken = taken_of p.there.inn }

-- Between two calls the side that sends keeps the queue of a direction: the taken frames are a beginning of the sent
-- ones, the rest waits, and there is room for as many as the link holds.
pub record AreEnds (capacity : ℕ) (out : PacketSenderState) (inn : PacketReceiverState) : Type 0 where
  pub waiting : List (List ℕ)
  pub row : out.frames ≡ inn.frames ++ waiting
  pub room : out.room ≡ Some (capacity - length waiting)
  pub count : out.waiting ≡ Some (length waiting)
  pub few : length waiting ≤ capacity
  pub queued : inn.queued ≡ Some []
  pub away : inn.capacity ≡ None
  pub packets : PacketsFollow out inn

-- a direction has both sides, or none
abbrev pub IsDirection : ℕ → Direction → Type 0
IsDirection capacity d = elim d.out [
  | None ↦ d.inn ≡ None
  | Some out ↦ (inn : PacketReceiverState) × (d.inn ≡ Some inn) × AreEnds capacity out inn
]

-- A list of events leads to this history, from two disks of their size and settings in their ranges.
pub record IsRun (h : PairHistory) : Type 0 where
  pub opening : Opening
  pub events : List (Event × Bool)
  pub shares : SharesSettings opening
  pub ranges : HasRanges opening
  pub local : IsDisk opening.settings.blocks opening.local
  pub peer : IsDisk opening.peer_settings.blocks opening.peer
  pub is : (run events (pair_at opening)).1 ≡ h

-- the pair refines this history, which some run of a pair reaches
pub record PairHas (p : PairState) (h : PairHistory) : Type 0 where
  pub primary : primary.NodeHas (primary_of p) h.primary
  pub secondary : secondary.NodeHas (secondary_of p) h.secondary
  pub run : IsRun h

-- Invariant: the pair refines some model history, and both directions are as they are between two calls.
pub record IsPair (p : PairState) : Type 0 where
  pub history : PairHistory
  pub has : PairHas p history
  pub there : IsDirection p.primary.settings.link p.there
  pub back : IsDirection p.secondary.settings.link p.back

-- The call was the event's step of the model, for every history that the pair refined; `out_of_memory` says whether
-- memory was refused.
pub record IsPairStep (event : Event) (out_of_memory : Bool) (p : PairState) (one : Reply) (next : PairState) : Type 0 where
  pub replies : (h : PairHistory) → PairHas p h → one ≡ (step event out_of_memory h).0
  pub after : (h : PairHistory) → PairHas p h → PairHas next (step event out_of_memory h).1

-- memory was refused, as the reply says
abbrev pub is_out_of_memory : Reply → Bool
is_out_of_memory (reply.Refused NoMemory) = true
is_out_of_memory _ = false

-- the events, each with whether memory was refused, as its reply says
abbrev pub answered : List Event → List Reply → List (Event × Bool)
answered [] replies = []
answered (event ∷ events) [] = []
answered (event ∷ events) (one ∷ replies) = (event, is_out_of_memory one) ∷ answered events replies

-- For every history that the pair refined, the replies are those of the run over the events, and the pair refines the
-- history that the run leads to.
pub record Ran (events : List Event) (replies : List Reply) (p q : PairState) : Type 0 where
  pub answers : (h : PairHistory) → PairHas p h → replies ≡ (run (answered events replies) h).0
  pub after : (h : PairHistory) → PairHas p h → PairHas q (run (answered events replies) h).1

-- The opening's identifiers were honest: the primary had data, and if the peer's current identifier was the primary's
-- current or bitmap identifier, the disks differed only in marked blocks.
abbrev pub WasHonest : PairHistory → Type 0
WasHonest h = IsHonest h.primary.opening_tuple h.secondary.opening_tuple (opening_marked h.primary) h.primary.opening_map h.secondary.opening_map
