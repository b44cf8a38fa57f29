use Rattle.packets.proofs.Frames.{answers_only}
use Rattle.packets.proofs.laws.round_trip.Goals as goal

pub returns : goal.returns
returns c = λ p frame answer rules spells answers. answers_only frame answer answers p rules spells
