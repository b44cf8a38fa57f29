use Rattle.std.proofs.Common.{rules}
use Rattle.link.proofs.ends.Offered.refusal.Goals as goal

pub returns : goal.returns
returns c = search rules
