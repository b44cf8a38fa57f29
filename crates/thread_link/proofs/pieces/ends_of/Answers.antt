-- A new row is empty, and its first pass may do both.
use Rattle.std.proofs.Common.{rules}
use Rattle.thread_link.proofs.Rows.{begins, forks}
use Rattle.thread_link.proofs.pieces.ends_of.Goals as goal

pub ruled-requires-clause-rule : goal.ruled-requires-clause-rule
ruled-requires-clause-rule g c = begins _ c.requires.first

pub another-taker-requires-clause-rule : goal.another-taker-requires-clause-rule
another-taker-requires-clause-rule g c = forks _ _ _ (search rules) (search rules)
