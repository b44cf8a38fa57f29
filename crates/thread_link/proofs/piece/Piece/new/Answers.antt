use Rattle.std.proofs.Common.{rules}
use Rattle.thread_link.proofs.piece.Piece.new.Goals as goal

pub returns : goal.returns
returns c = search rules
