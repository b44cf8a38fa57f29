use Rattle.std.proofs.Common.{rules}
use Rattle.peerdisk.proofs.slots.stays.Goals as goal

pub returns-in-Some : goal.returns-in-Some
returns-in-Some c = search rules
