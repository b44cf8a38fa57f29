use Rattle.nbd.proofs.Feeding.{fed_append}
use Rattle.nbd.proofs.laws.one_piece_after_another.Goals as goal

pub returns : goal.returns
returns c m bytes piece = fed_append m bytes piece
