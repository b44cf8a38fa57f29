use Rattle.primary_core.specs.Kept.{Cleared}
use Rattle.primary_core.proofs.report.clear.Given as goal

abbrev pub invariant-loop-block : goal.invariant-loop-block
invariant-loop-block l = Cleared l.write l.log.state.last_writes l.fn.marks l.marks l.block
