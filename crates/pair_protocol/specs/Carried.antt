-- What a direction of the link gave to the node that takes from it.
use Rattle.std.specs.Prelude.{◌≡◌, Option, Some, None, Result, Ok, Err, length, slice_get}
use Rattle.std.specs.Option.{option_map}
use Rattle.blocks.specs.declared.refusal.Refusal.{Refusal}
use Rattle.blocks.specs.declared.refusal.Refusal.TheVariants.{NothingThere}
use Rattle.model.specs.Frames.{Received}
use Rattle.endpoint.specs.PacketReceiver.{PacketReceiverState}
use Rattle.endpoint.specs.PacketSender.{PacketSenderState}
use Rattle.endpoint.specs.Joined.{PacketsFollow}
use Rattle.pair_protocol.specs.State.{Direction}

-- the first packet that was pushed and not taken yet, as it is received
abbrev pub next_of : PacketSenderState → PacketReceiverState → Option Received
next_of out inn = option_map (λ packet. Ok packet) (slice_get out.pushed (length inn.taken))

-- the direction has both sides, and this frame is the next one
pub record GivesNext (d : Direction) (frame : Option Received) : Type 0 where
  pub out : PacketSenderState
  pub inn : PacketReceiverState
  pub out_there : d.out ≡ Some out
  pub in_there : d.inn ≡ Some inn
  pub next : next_of out inn ≡ frame

-- A taken frame was the next one; and there was nothing to take (13) only if no frame waited.
pub record Gave {R : Type 0} (frame : Option Received) (result : Result R Refusal) (d : Direction) : Type 0 where
  pub took : (one : Received) → frame ≡ Some one → GivesNext d (Some one)
  pub none : frame ≡ None → result ≡ Err NothingThere → GivesNext d None

-- if the direction has both sides, they read their frames alike
abbrev pub PacketsFollowIn : Direction → Type 0
PacketsFollowIn d = (out : PacketSenderState) (inn : PacketReceiverState) → d.out ≡ Some out → d.inn ≡ Some inn → PacketsFollow out inn
