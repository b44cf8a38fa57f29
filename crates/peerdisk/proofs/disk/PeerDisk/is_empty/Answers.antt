use Rattle.std.proofs.Common.{rules}
use Rattle.peerdisk.proofs.disk.PeerDisk.is_empty.Goals as goal

pub returns : goal.returns
returns g c = search rules
