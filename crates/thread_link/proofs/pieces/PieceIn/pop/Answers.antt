-- The taking end is the one that may take.
use Rattle.std.proofs.Common.{ap, rules, arith}
use Rattle.std.proofs.lemmas.Grind.{common_steps}
use Rattle.thread_link.specs.declared.pieces.Log.{Log}
use Rattle.thread_link.proofs.Rows.{empty_at, gets}
use Rattle.thread_link.proofs.pieces.PieceIn.pop.Goals as goal

pub pop_as-requires-clause-rule : goal.pop_as-requires-clause-rule
pop_as-requires-clause-rule g c = (
  gets _ g.M.RingInvariant.take_keeps _ _ (ap (λ (v : Log). v.takes) c.self.invariant.1),
  empty_at _ _ _ (ap (λ (v : Log). v.takes) c.self.invariant.1),
)

pub returns-clause-first : goal.returns-clause-first
returns-clause-first g c = search rules

pub returns-clause-empty : goal.returns-clause-empty
returns-clause-empty g c = grind (arith, common_steps)
