use Rattle.std.proofs.Common.{rules}
use Rattle.primary.proofs.receipts.Receipt.kind.Goals as goal

pub returns : goal.returns
returns c = search rules
