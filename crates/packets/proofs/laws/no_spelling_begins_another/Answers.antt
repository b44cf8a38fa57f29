use Rattle.packets.proofs.Frames.{one_packet}
use Rattle.packets.proofs.laws.no_spelling_begins_another.Goals as goal

pub returns : goal.returns
returns c = λ p q x y written other e. one_packet p q x y written.0 written.1 other.0 other.1 e
