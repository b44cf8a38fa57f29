-- The pushing end is the one that may push.
use Rattle.std.proofs.Common.{ap, rules, arith}
use Rattle.std.proofs.lemmas.Grind.{common_steps}
use Rattle.thread_link.specs.declared.pieces.Log.{Log}
use Rattle.thread_link.proofs.Rows.{full_at, sends}
use Rattle.thread_link.proofs.pieces.RowOut.push_sheet.Goals as goal

pub push_as-requires-clause-rule : goal.push_as-requires-clause-rule
push_as-requires-clause-rule g c = (
  sends _ g.M.RingInvariant.push_keeps _ _ _ _ (ap (λ (v : Log). v.pushes) c.self.invariant.1),
  full_at _ _ _ (ap (λ (v : Log). v.pushes) c.self.invariant.1),
)

pub returns-clause-pushed : goal.returns-clause-pushed
returns-clause-pushed g c = search rules

pub returns-clause-full : goal.returns-clause-full
returns-clause-full g c = grind (arith, common_steps)
