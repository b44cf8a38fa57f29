use Rattle.std.proofs.Common.{rules}
use Rattle.link.proofs.plain.PlainLink.new.Goals as goal

pub returns-clause-back : goal.returns-clause-back
returns-clause-back c = search rules
