-- The fields of a node as plain values, and their invariant.
use Rattle.std.specs.Prelude.{ℕ, ◌≡◌, ◌≤◌, Bool, true, List, [], ◌∷◌, Option, Some, None, IfSome, is_some, Ok}
use Rattle.model.specs.Frames.{Packet, Received}
pub use Rattle.endpoint.specs.Calls.{pushed_of, taken_of}
use Rattle.endpoint.specs.PacketSender.{PacketSenderState, pushing_anew}
use Rattle.endpoint.specs.PacketReceiver.{PacketReceiverState, taking_anew}
use Rattle.primary_protocol.specs.Core.{PrimaryState, is_established}
use Rattle.primary_protocol.specs.Transitions.{due}
use Rattle.primary_protocol.specs.Node.{NodeState, NodeIsHad}

-- A node: its core, the blocks of its disk, both sides of its link if it was opened, how many of its disk's calls have
-- failed, whether these are known not to fail, and whether each read gave what the disk holds.
pub record PrimaryView : Type 0 where
  pub core : PrimaryState
  pub disk : List (List ℕ)
  pub outgoing : Option PacketSenderState
  pub incoming : Option PacketReceiverState
  pub faults : ℕ
  pub steady : Bool
  pub faithful : Bool

-- the view of a node with this core, disk and link
abbrev pub seen : PrimaryState → List (List ℕ) → Option PacketSenderState → Option PacketReceiverState → ℕ → Bool → Bool → PrimaryView
seen core disk outgoing incoming faults steady faithful = record {
  core = core;
  disk = disk;
  outgoing = outgoing;
  incoming = incoming;
  faults = faults;
  steady = steady;
  faithful = faithful;
}

-- the node as the model's history has it
abbrev pub node : PrimaryView → NodeState
node v = record { core = v.core; disk = v.disk; pushed = pushed_of v.outgoing; taken = taken_of v.incoming; faithful = v.faithful }

-- Both sides began the connection of this number, and the core opened; all else is as it was.
pub record IsRestarted (number : ℕ) (old new : PrimaryView) : Type 0 where
  pub before : PacketSenderState
  pub room : Option ℕ
  pub waiting : Option ℕ
  pub out_there : old.outgoing ≡ Some before
  pub out : new.outgoing ≡ Some (record (pushing_anew number before) { room = room; waiting = waiting })
  pub had : PacketReceiverState
  pub queued : Option (List (List ℕ))
  pub capacity : Option ℕ
  pub in_there : old.incoming ≡ Some had
  pub inn : new.incoming ≡ Some (record (taking_anew number had) { queued = queued; capacity = capacity })
  pub rest : new ≡ record old { core = new.core; outgoing = new.outgoing; incoming = new.incoming }

-- What went in part at an open end is the packet that is due.
abbrev pub IsDue : Option (List Packet) → PrimaryState → Type 0
IsDue None s = Unit {0}
IsDue (Some begun) s = is_some s.end ≡ true → (packet : Packet) × (due s ≡ Ok packet) × (begun ≡ packet ∷ [])

abbrev pub IsBegun : Option PacketSenderState → PrimaryState → Type 0
IsBegun None s = Unit {0}
IsBegun (Some o) s = IsDue o.partly s

-- the sides' connections are not numbered above the node's
abbrev pub IsNumbered : Option PacketSenderState → Option PacketReceiverState → PrimaryState → Type 0
IsNumbered (Some o) (Some i) s = (o.number ≤ s.connections) × (i.number ≤ s.connections)
IsNumbered _ _ s = Unit {0}

-- Invariant: the node refines some model history. An open end has both sides of its link, what went in part is due, and
-- a link's connections are numbered as the node's are. Once the stream has begun there is room for the next frame,
-- whatever it is.
pub record IsNode (v : PrimaryView) : Type 0 where
  pub had : NodeIsHad (node v)
  pub out_there : is_some v.core.end ≡ true → is_some v.outgoing ≡ true
  pub in_there : is_some v.core.end ≡ true → is_some v.incoming ≡ true
  pub begun : IsBegun v.outgoing v.core
  pub numbered : IsNumbered v.outgoing v.incoming v.core
  pub ready : is_established v.core ≡ true → IfSome v.incoming (λ i. i.is_ready ≡ true)
