use Rattle.nbd.proofs.Parsing.{parsed}
use Rattle.nbd.proofs.laws.nothing_else.Goals as goal

pub returns : goal.returns
returns c of e bytes fits = parsed of e bytes fits
