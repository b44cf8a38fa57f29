use Rattle.packets.proofs.Readings.{one_answer}
use Rattle.packets.proofs.laws.one_answer.Goals as goal

pub returns : goal.returns
returns c = one_answer
