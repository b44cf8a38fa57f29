-- Both ends of a direction.
use Rattle.std.specs.Prelude.{ℕ, ◌≡◌, ◌==◌, if◌then◌else◌, List, [], ◌∷◌, length, map, Ok}
use Rattle.model.specs.Frames.{Packet, Received}
use Rattle.model.specs.Stream.{IsBeginning}
use Rattle.endpoint.specs.PacketReceiver.{PacketReceiverState, TakenBefore}
use Rattle.endpoint.specs.PacketSender.{PacketSenderState, PushedBefore}

-- what was taken is packets alone, and these begin the packets pushed
pub record BeginsPushed (taken : List Received) (pushed : List Packet) : Type 0 where
  pub front : List Packet
  pub each : taken ≡ map (λ p. Ok p) front
  pub begins : IsBeginning front pushed

-- Both sides have one packet or fault for each frame; and if the frames taken are a beginning of the frames sent, so
-- are their packets.
pub record PacketsFollow (out : PacketSenderState) (inn : PacketReceiverState) : Type 0 where
  pub begins : IsBeginning inn.frames out.frames → BeginsPushed inn.taken out.pushed
  pub pushed : length out.pushed ≡ length out.frames
  pub taken : length inn.taken ≡ length inn.frames

-- The connections of an end by their numbers, the present one and those before it. Nothing went on a connection that
-- the end never had.

-- the packets pushed on an earlier connection, and their frames
abbrev pub pushed_past : ℕ → List PushedBefore → List Packet
pushed_past number [] = []
pushed_past number (before ∷ past) = if before.number == number then before.pushed else pushed_past number past

abbrev pub sent_past : ℕ → List PushedBefore → List (List ℕ)
sent_past number [] = []
sent_past number (before ∷ past) = if before.number == number then before.frames else sent_past number past

-- the packets pushed on the connection of this number, and their frames
abbrev pub pushed_at : ℕ → PacketSenderState → List Packet
pushed_at number o = if o.number == number then o.pushed else pushed_past number o.past

abbrev pub sent_at : ℕ → PacketSenderState → List (List ℕ)
sent_at number o = if o.number == number then o.frames else sent_past number o.past

-- what was taken on an earlier connection, and the frames
abbrev pub taken_past : ℕ → List TakenBefore → List Received
taken_past number [] = []
taken_past number (before ∷ past) = if before.number == number then before.taken else taken_past number past

abbrev pub came_past : ℕ → List TakenBefore → List (List ℕ)
came_past number [] = []
came_past number (before ∷ past) = if before.number == number then before.frames else came_past number past

-- what was taken on the connection of this number, and the frames
abbrev pub taken_at : ℕ → PacketReceiverState → List Received
taken_at number i = if i.number == number then i.taken else taken_past number i.past

abbrev pub came_at : ℕ → PacketReceiverState → List (List ℕ)
came_at number i = if i.number == number then i.frames else came_past number i.past

-- If the frames taken on a connection are a beginning of the frames sent on it, so are their packets.
abbrev pub PacketsFollowEverywhere : PacketSenderState → PacketReceiverState → Type 0
PacketsFollowEverywhere out inn = (number : ℕ) → IsBeginning (came_at number inn) (sent_at number out) → BeginsPushed (taken_at number inn) (pushed_at number out)
