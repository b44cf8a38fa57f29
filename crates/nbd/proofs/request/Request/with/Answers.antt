use Rattle.std.proofs.Common.{rules}
use Rattle.nbd.proofs.request.Request.with.Goals as goal

pub returns : goal.returns
returns c = search rules
