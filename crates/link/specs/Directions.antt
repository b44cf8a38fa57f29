-- A queue, the ends of a direction, and how they belong together.
use Rattle.std.specs.Option.{option_map}
use Rattle.link.specs.Past.{Past, ended}
use Rattle.std.specs.Prelude.{ℕ, ◌≡◌, ◌-◌, List, [], ◌∷◌, ◌++◌, Option, None, Some, length}

-- a direction's queue: the frames taken out of it so far, those in it with the next one first, and how
-- many it holds at most
pub record QueueState : Type 0 where
  pub taken : List (List ℕ)
  pub frames : List (List ℕ)
  pub capacity : ℕ

-- a sending end: the frames that it has accepted on its present connection, that one's number, what went over its
-- earlier connections, and its queue if that is here
pub record OutState : Type 0 where
  pub sent : List (List ℕ)
  pub number : ℕ
  pub past : List Past
  pub queue : Option QueueState

-- a taking end: the frames that it has taken on its present connection, that one's number, what came over its earlier
-- connections, and the queue if that is here
pub record InState : Type 0 where
  pub taken : List (List ℕ)
  pub number : ℕ
  pub past : List Past
  pub queue : Option QueueState

-- how many more frames can be put into the queue; none if it is away
abbrev pub room_in : Option QueueState → ℕ
room_in None = 0
room_in (Some queue) = queue.capacity - length queue.frames

-- the frames in the queue; none if it is away
abbrev pub frames_in : Option QueueState → List (List ℕ)
frames_in None = []
frames_in (Some queue) = queue.frames

-- the queue with another frame in it
abbrev pub with_frame : List ℕ → QueueState → QueueState
with_frame frame queue = record queue { frames = queue.frames ++ frame ∷ [] }

-- the sending end after it accepted this frame
abbrev pub accepting : OutState → List ℕ → OutState
accepting sender frame = record sender {
  sent = sender.sent ++ frame ∷ [];
  queue = option_map (with_frame frame) sender.queue;
}

-- the queue with nothing in it, of a connection that begins
abbrev pub emptied : QueueState → QueueState
emptied queue = record queue { taken = []; frames = [] }

-- the sending end at the beginning of a connection: what was in the queue is dropped
abbrev pub restarted_out : ℕ → OutState → OutState
restarted_out number sender = record {
  sent = [];
  number = number;
  past = ended sender.number sender.sent sender.past;
  queue = option_map emptied sender.queue;
}

-- the taking end at the beginning of a connection
abbrev pub restarted_in : ℕ → InState → InState
restarted_in number taker = record {
  taken = [];
  number = number;
  past = ended taker.number taker.taken taker.past;
  queue = option_map emptied taker.queue;
}

-- the frames sent are those taken and then those in the queue, which is at one of the ends
abbrev pub IsTied : List (List ℕ) → List (List ℕ) → Option QueueState → Option QueueState → Type 0
IsTied sent taken (Some queue) None = sent ≡ taken ++ queue.frames
IsTied sent taken None (Some queue) = sent ≡ taken ++ queue.frames
IsTied sent taken None None = ⊥
IsTied sent taken (Some queue) (Some other) = ⊥

-- the two ends are those of one direction
abbrev pub IsDirection : OutState → InState → Type 0
IsDirection sender taker = IsTied sender.sent taker.taken sender.queue taker.queue

-- the two ends are those of one direction, and this is its queue, which is at neither
pub record IsDirectionWith (sender : OutState) (taker : InState) (queue : QueueState) : Type 0 where
  pub not_there : sender.queue ≡ None
  pub not_here : taker.queue ≡ None
  pub sent : sender.sent ≡ queue.taken ++ queue.frames
  pub taken : queue.taken ≡ taker.taken

-- the two ends of a direction as they are made, with an empty queue at the sending end
pub record IsUnused (sender : OutState) (taker : InState) (capacity : ℕ) : Type 0 where
  pub sending : sender ≡ record { sent = []; number = 1; past = []; queue = Some (record { taken = []; frames = []; capacity = capacity }) }
  pub taking : taker ≡ record { taken = []; number = 1; past = []; queue = None }
