use Rattle.packets.proofs.Cuts.{spelled_cut}
use Rattle.packets.proofs.laws.spelling_is_cut.Goals as goal

pub returns : goal.returns
returns c = spelled_cut
