use Rattle.std.proofs.Common.{refl}
use Rattle.nbd.proofs.Serving.{fed_inside, fed_own}
use Rattle.nbd.proofs.connection.Connection.feed.Goals as goal

pub returns-in_err-taken-clause-inside : goal.returns-in_err-taken-clause-inside
returns-in_err-taken-clause-inside c = fed_inside c.args.self.now.export.blocks c.args.self.now c.args.piece.now refl c.is_waiting.ensures.waits

pub returns-in_err-taken-clause-of : goal.returns-in_err-taken-clause-of
returns-in_err-taken-clause-of c = fed_own c.args.self.now c.args.piece.now c.is_waiting.ensures.waits

pub returns-clause-inside : goal.returns-clause-inside
returns-clause-inside c = fed_inside c.args.self.now.export.blocks c.args.self.now c.args.piece.now refl c.is_waiting.ensures.waits

pub returns-clause-of : goal.returns-clause-of
returns-clause-of c = fed_own c.args.self.now c.args.piece.now c.is_waiting.ensures.waits
