use Rattle.packets.proofs.Cuts.{same_cut}
use Rattle.packets.proofs.laws.one_cut.Goals as goal

pub returns : goal.returns
returns c = same_cut
