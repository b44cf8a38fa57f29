use Rattle.std.proofs.Common.{rules}
use Rattle.resync.proofs.under_way.Resync.acknowledged.Goals as goal

pub returns : goal.returns
returns c = search rules
