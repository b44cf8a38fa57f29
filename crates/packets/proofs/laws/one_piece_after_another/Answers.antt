use Rattle.packets.proofs.Readings.{gives_then}
use Rattle.packets.proofs.laws.one_piece_after_another.Goals as goal

pub returns : goal.returns
returns c = gives_then
