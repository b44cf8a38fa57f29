use Rattle.std.proofs.Common.{refl}
use Rattle.nbd.proofs.Dividing.{places_none}
use Rattle.nbd.proofs.pieces.Pieces.none.Goals as goal

pub returns : goal.returns
returns c = places_none 0 0 _ refl
