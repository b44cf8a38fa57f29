use Rattle.std.proofs.Common.{rules}
use Rattle.node_lines.proofs.nodes.primary_words.Goals as goal

pub returns-then-not-is_open : goal.returns-then-not-is_open
returns-then-not-is_open c = search rules
