use Rattle.std.proofs.Common.{rules}
use Rattle.secondary_core.proofs.item.PendingItem.receipt.Goals as goal

pub returns-in-Write-B : goal.returns-in-Write-B
returns-in-Write-B c = search rules
