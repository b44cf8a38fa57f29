use Rattle.packets.proofs.Readings.{one_reading}
use Rattle.packets.proofs.laws.one_reading.Goals as goal

pub returns : goal.returns
returns c = one_reading
