-- What came in, as packets and faults.
use Rattle.std.specs.Prelude.{ℕ, suc, ◌≡◌, Bool, List, [], ◌∷◌, ◌++◌, drop, map, Option, Some, None, IfSome}
use Rattle.std.specs.Option.{option_map}
pub use Rattle.handshakes.specs.Hello.{hello_after}
use Rattle.packets.specs.Frames.{frame_read, in_hello}
use Rattle.link.specs.Ends.{InEnd}
use Rattle.link.specs.Past.{Past}
use Rattle.model.specs.Frames.{Received}
use Rattle.endpoint.specs.Meaning.{received}

-- a connection that is over: its number, what was taken on it, and the frames
pub record TakenBefore : Type 0 where
  pub number : ℕ
  pub taken : List Received
  pub frames : List (List ℕ)

-- The number of the present connection, what was taken on it, the connections before, and whether there is room for the
-- longest frame. If the link knows them: the frames to be taken next, and how many its queue holds if that is here. The
-- frames taken matter only to what is said of both ends.
pub record PacketReceiverState : Type 0 where
  pub number : ℕ
  pub taken : List Received
  pub past : List TakenBefore
  pub is_ready : Bool
  pub queued : Option (List (List ℕ))
  pub capacity : Option ℕ
  pub frames : List (List ℕ)

-- what a frame is received as that was taken after `taken` others
abbrev pub received_after : ℕ → List ℕ → Received
received_after taken frame = received (in_hello (hello_after taken) frame (frame_read frame))

-- what frames are received as, the first of them after `taken` others
abbrev pub received_from : ℕ → List (List ℕ) → List Received
received_from taken [] = []
received_from taken (frame ∷ frames) = received_after taken frame ∷ received_from (suc taken) frames

-- a connection that is over, as packets and faults
abbrev pub taken_before : Past → TakenBefore
taken_before past = record { number = past.number; taken = received_from 0 past.frames; frames = past.frames }

-- a link's end, as packets and faults
abbrev pub incoming : InEnd → PacketReceiverState
incoming s = record {
  number = s.number;
  taken = received_from 0 s.taken;
  past = map taken_before s.past;
  is_ready = s.is_ready;
  queued = s.queued;
  capacity = s.capacity;
  frames = s.taken;
}

-- the side after this was taken; these are all frames then, and there is still room for the longest or not
abbrev pub with_received : Received → List (List ℕ) → Bool → PacketReceiverState → PacketReceiverState
with_received one frames ready s = record s {
  taken = s.taken ++ one ∷ [];
  is_ready = ready;
  queued = option_map (drop 1) s.queued;
  frames = frames;
}

-- the side at the beginning of a connection
abbrev pub taking_anew : ℕ → PacketReceiverState → PacketReceiverState
taking_anew number s = record s {
  number = number;
  taken = [];
  past = s.past ++ record { number = s.number; taken = s.taken; frames = s.frames } ∷ [];
  frames = [];
}

-- the frames taken and then those to be taken are the same sequence as before, if the link knows them
abbrev pub SameRow : PacketReceiverState → PacketReceiverState → Type 0
SameRow old new = IfSome old.queued (λ before. IfSome new.queued (λ after. new.frames ++ after ≡ old.frames ++ before))
