use Rattle.std.proofs.Common.{rules}
use Rattle.thread_link.proofs.piece.Piece.bytes.Goals as goal

pub returns-clause-value : goal.returns-clause-value
returns-clause-value c = search rules
