-- The taking end is the one that may take.
use Rattle.std.proofs.Common.{ap, rules}
use Rattle.thread_link.specs.declared.pieces.Log.{Log}
use Rattle.thread_link.proofs.Rows.{empty_at, gets}
use Rattle.thread_link.proofs.pieces.PieceIn.pop_from.Goals as goal

pub pop_as-requires-clause-rule : goal.pop_as-requires-clause-rule
pop_as-requires-clause-rule g c = (
  gets _ g.M.RingInvariant.take_keeps _ _ (ap (λ (v : Log). v.takes) c.loop.invariant.takes),
  empty_at _ _ _ (ap (λ (v : Log). v.takes) c.loop.invariant.takes),
)

pub returns-then-number-clause-empty : goal.returns-then-number-clause-empty
returns-then-number-clause-empty g c = search rules
