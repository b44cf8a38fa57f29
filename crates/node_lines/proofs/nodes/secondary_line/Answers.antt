use Rattle.std.proofs.Common.{rules}
use Rattle.node_lines.proofs.nodes.secondary_line.Goals as goal

pub returns : goal.returns
returns g c = search rules
