use Rattle.std.proofs.Common.{rules}
use Rattle.thread_link.proofs.pieces.PieceOut.push.Goals as goal

pub returns-in-false-clause-full : goal.returns-in-false-clause-full
returns-in-false-clause-full g c = search rules
