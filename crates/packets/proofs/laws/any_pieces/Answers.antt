use Rattle.packets.proofs.Readings.{any_pieces}
use Rattle.packets.proofs.laws.any_pieces.Goals as goal

pub returns : goal.returns
returns c = any_pieces
