-- What both ends of a node know of its connections.
use Rattle.std.specs.Prelude.{ℕ, ◌≡◌, ◌<◌, List, Option, Some}
use Rattle.std.specs.List.{AllByRecursion}
use Rattle.model.specs.Frames.{Packet, Received}
use Rattle.endpoint.specs.PacketReceiver.{PacketReceiverState}
use Rattle.endpoint.specs.PacketSender.{PacketSenderState}
use Rattle.endpoint.specs.Joined.{pushed_at, taken_at}

-- Both ends are on the last connection, those before it have lower numbers, and for each number these packets were
-- pushed and these frames taken.
pub record KnowTraffic (outgoing : Option PacketSenderState) (incoming : Option PacketReceiverState) (last : ℕ) (sent : ℕ → List Packet)
    (came : ℕ → List Received) : Type 0 where
  pub out : PacketSenderState
  pub inn : PacketReceiverState
  pub out_there : outgoing ≡ Some out
  pub in_there : incoming ≡ Some inn
  pub out_number : out.number ≡ last
  pub in_number : inn.number ≡ last
  pub out_past : AllByRecursion (λ before. before.number < last) out.past
  pub in_past : AllByRecursion (λ before. before.number < last) inn.past
  pub pushed : (number : ℕ) → pushed_at number out ≡ sent number
  pub taken : (number : ℕ) → taken_at number inn ≡ came number
