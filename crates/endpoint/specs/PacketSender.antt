-- What went out, as packets.
use Rattle.std.specs.Prelude.{ℕ, ◌≡◌, min, ◌+◌, ◌-◌, length, List, [], ◌∷◌, ◌++◌, map, Option, None, IfSome}
use Rattle.std.specs.List.{AllByRecursion}
use Rattle.std.specs.Option.{option_map}
use Rattle.link.specs.Ends.{OutEnd}
use Rattle.link.specs.Past.{Past}
use Rattle.model.specs.Frames.{Packet}
use Rattle.endpoint.specs.Meaning.{IsSpelled, meant, meant_in}

-- a connection that is over: its number, the packets pushed on it, and their frames
pub record PushedBefore : Type 0 where
  pub number : ℕ
  pub pushed : List Packet
  pub frames : List (List ℕ)

-- The number of the present connection, the packets pushed on it, the connections before, a packet that went in part
-- (as a list of one at most). If the link knows them: how many more it can take, and how many wait in its queue if that
-- is here. The frames of the packets pushed matter only to what is said of both ends.
pub record PacketSenderState : Type 0 where
  pub number : ℕ
  pub pushed : List Packet
  pub past : List PushedBefore
  pub partly : Option (List Packet)
  pub room : Option ℕ
  pub waiting : Option ℕ
  pub frames : List (List ℕ)

-- a connection that is over, as packets
abbrev pub pushed_before : Past → PushedBefore
pushed_before past = record { number = past.number; pushed = meant_in past.frames; frames = past.frames }

-- a link's end, as packets
abbrev pub outgoing : OutEnd → PacketSenderState
outgoing s = record {
  number = s.number;
  pushed = meant_in s.sent;
  past = map pushed_before s.past;
  partly = option_map meant s.partly;
  room = s.room;
  waiting = option_map length s.waiting;
  frames = s.sent;
}

-- the side after another packet was pushed in this frame
abbrev pub with_pushed : Packet → List ℕ → PacketSenderState → PacketSenderState
with_pushed packet frame s = record s {
  pushed = s.pushed ++ packet ∷ [];
  partly = None;
  room = option_map (λ n. n - 1) s.room;
  waiting = option_map (λ n. n + 1) s.waiting;
  frames = s.frames ++ frame ∷ [];
}

-- the side at the beginning of a connection
abbrev pub pushing_anew : ℕ → PacketSenderState → PacketSenderState
pushing_anew number s = record s {
  number = number;
  pushed = [];
  past = s.past ++ record { number = s.number; pushed = s.pushed; frames = s.frames } ∷ [];
  partly = None;
  frames = [];
}

-- Whatever went out, or went in part, is the spelling of a packet; and the count is that of the frames sent, up to the
-- greatest number of 64 bits.
pub record IsOutgoing (count : ℕ) (s : OutEnd) : Type 0 where
  pub sent : AllByRecursion IsSpelled s.sent
  pub past : AllByRecursion (λ before. AllByRecursion IsSpelled before.frames) s.past
  pub partly : IfSome s.partly IsSpelled
  pub counted : count ≡ min (length s.sent) 18446744073709551615
