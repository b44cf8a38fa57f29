use Rattle.std.proofs.Common.{rules}
use Rattle.peerdisk.proofs.disk.PeerDisk.may_put.Goals as goal

pub returns : goal.returns
returns g c = search rules
