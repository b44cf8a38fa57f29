use Rattle.std.proofs.Common.{rules}
use Rattle.nbd.proofs.request.Request.reply.Goals as goal

pub returns-clause-cookie : goal.returns-clause-cookie
returns-clause-cookie c = search rules
