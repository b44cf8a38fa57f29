-- What a node's call did to its sides of a link.
use Rattle.std.specs.Prelude.{ℕ, ◌≡◌, Bool, true, false, List, [], Option, Some, None, IfSome, Result, Ok, Err, OnOk, OnErr}
use Rattle.std.specs.Option.{option_map}
use Rattle.blocks.specs.declared.refusal.Refusal.{Refusal}
use Rattle.blocks.specs.declared.refusal.Refusal.TheVariants.{LinkFull, NoMemory, NothingThere}
use Rattle.link.specs.Ends.{OutEnd, InEnd}
use Rattle.model.specs.Frames.{Packet, Received}
use Rattle.endpoint.specs.PacketSender.{PacketSenderState, with_pushed}
use Rattle.endpoint.specs.PacketReceiver.{PacketReceiverState, with_received, SameRow}

-- what was pushed, and what was taken: nothing if the node was never opened
abbrev pub pushed_of : Option PacketSenderState → List Packet
pushed_of None = []
pushed_of (Some o) = o.pushed

abbrev pub taken_of : Option PacketReceiverState → List Received
taken_of None = []
taken_of (Some i) = i.taken

-- whether a result says that memory was refused; and whether the link had room, as far as the result says
abbrev pub is_out_of_memory : {R : Type 0} → Result R Refusal → Bool
is_out_of_memory (Err NoMemory) = true
is_out_of_memory _ = false

abbrev pub has_room : {R : Type 0} → Result R Refusal → Bool
has_room (Err LinkFull) = false
has_room _ = true

-- what a call was refused for
abbrev pub refusal_in : {R : Type 0} → Result R Refusal → Option Refusal
refusal_in (Ok done) = None
refusal_in (Err refusal) = Some refusal

-- One packet was pushed, for which the link had room, if it knows its room.
pub record PushedOne (old new : Option PacketSenderState) : Type 0 where
  pub before : PacketSenderState
  pub packet : Packet
  pub frame : List ℕ
  pub there : old ≡ Some before
  pub after : new ≡ Some (with_pushed packet frame before)
  pub room : IfSome before.room (λ n. n ≡ 0 → ⊥)

-- What a call that sends did: it pushed a packet if it succeeded, and else none, though one may have gone in part. The
-- link is full (11) only if it had no room, as far as it knows its room.
pub record Sends {R : Type 0} (result : Result R Refusal) (old new : Option PacketSenderState) : Type 0 where
  pub pushed : OnOk result (PushedOne old new)
  pub kept : OnErr result ((partly : Option (List Packet)) × (new ≡ option_map (λ (o : PacketSenderState). record o { partly = partly }) old))
  pub full : result ≡ Err LinkFull → (before : PacketSenderState) × (old ≡ Some before) × IfSome before.room (λ n. n ≡ 0)

-- One frame was taken: the next of the link, as far as it knows its queue.
pub record TookOne (one : Received) (old new : Option PacketReceiverState) : Type 0 where
  pub before : PacketReceiverState
  pub frames : List (List ℕ)
  pub ready : Bool
  pub there : old ≡ Some before
  pub after : new ≡ Some (with_received one frames ready before)
  pub row : SameRow before (with_received one frames ready before)
  pub queued : IfSome before.queued (λ frames. frames ≡ [] → ⊥)

-- What a call that takes did: it took this frame, or none, though room may have been made for the longest. There is
-- nothing (13) only if the queue was empty, as far as the link knows it.
pub record Takes {R : Type 0} (one : Option Received) (result : Result R Refusal) (old new : Option PacketReceiverState) : Type 0 where
  pub took : (frame : Received) → one ≡ Some frame → TookOne frame old new
  pub kept : one ≡ None → (ready : Bool) × (new ≡ option_map (λ (i : PacketReceiverState). record i { is_ready = ready }) old)
  pub empty : result ≡ Err NothingThere → (before : PacketReceiverState) × (old ≡ Some before) × IfSome before.queued (λ frames. frames ≡ [])

-- a sending end of a link through which nothing has gone yet
pub record IsNewOut (s : OutEnd) : Type 0 where
  pub number : s.number ≡ 1
  pub sent : s.sent ≡ []
  pub past : s.past ≡ []
  pub whole : s.partly ≡ None

-- the same of a taking end
pub record IsNewIn (s : InEnd) : Type 0 where
  pub number : s.number ≡ 1
  pub taken : s.taken ≡ []
  pub past : s.past ≡ []
