use Rattle.std.proofs.Common.{rules}
use Rattle.node_lines.proofs.nodes.primary_line.Goals as goal

pub overflow_mul-result : goal.overflow_mul-result
overflow_mul-result g c = search rules

pub returns : goal.returns
returns g c = search rules
