-- A queue that a sending side lends to a taking side, and gets back.
use Rattle.std.specs.Prelude.{ℕ, ◌≡◌, ◌-◌, ◌≤◌, ◌++◌, Option, Some, None, [], length, is_some, IfSome}
use Rattle.std.specs.Option.{option_map}
use Rattle.link.specs.Directions.{QueueState}
use Rattle.endpoint.specs.PacketSender.{PacketSenderState}
use Rattle.endpoint.specs.PacketReceiver.{PacketReceiverState}

-- A sending side without its queue, which counts as full, and one with it.
abbrev pub without_queue : PacketSenderState → PacketSenderState
without_queue o = record o { room = Some 0; waiting = None }

abbrev pub with_queue : QueueState → PacketSenderState → PacketSenderState
with_queue q o = record o { room = Some (q.capacity - length q.frames); waiting = Some (length q.frames) }

-- a taking side without a queue, which counts as empty, and one with it
abbrev pub empty_handed : PacketReceiverState → PacketReceiverState
empty_handed i = record i { queued = Some []; capacity = None }

abbrev pub taking_from : QueueState → PacketReceiverState → PacketReceiverState
taking_from q i = record i { queued = Some q.frames; capacity = Some q.capacity }

-- how a sending side and its queue agree while the queue is here
pub record IsQueueOf (q : QueueState) (o : PacketSenderState) : Type 0 where
  pub frames : o.frames ≡ q.taken ++ q.frames
  pub room : o.room ≡ Some (q.capacity - length q.frames)
  pub waiting : o.waiting ≡ Some (length q.frames)
  pub within : length q.frames ≤ q.capacity

-- the sending side gave its queue away, if it was here
pub record GivenOut (queue : Option QueueState) (old new : Option PacketSenderState) : Type 0 where
  pub there : (o : PacketSenderState) → old ≡ Some o → is_some queue ≡ is_some o.waiting
  pub none : old ≡ None → queue ≡ None
  pub whose : (o : PacketSenderState) (q : QueueState) → old ≡ Some o → queue ≡ Some q → IsQueueOf q o
  pub left : new ≡ option_map without_queue old

-- the sending side has its queue back
abbrev pub LaidBack : QueueState → Option PacketSenderState → Option PacketSenderState → Type 0
LaidBack q old new = new ≡ option_map (with_queue q) old

-- the taking side gave the queue away, if it was here
pub record GivenBack (queue : Option QueueState) (old new : Option PacketReceiverState) : Type 0 where
  pub there : (i : PacketReceiverState) → old ≡ Some i → is_some queue ≡ is_some i.capacity
  pub none : old ≡ None → queue ≡ None
  pub whose : (i : PacketReceiverState) (q : QueueState) → old ≡ Some i → queue ≡ Some q
      → (q.taken ≡ i.frames) × ((i.queued ≡ Some q.frames) × (i.capacity ≡ Some q.capacity))
  pub left : new ≡ option_map empty_handed old

-- the taking side has the queue now
abbrev pub LaidIn : QueueState → Option PacketReceiverState → Option PacketReceiverState → Type 0
LaidIn q old new = new ≡ option_map (taking_from q) old
