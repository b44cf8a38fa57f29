-- The queries that are left go on with whether one of those before named the context.
use Rattle.std.proofs.Common.{◌≡◌}
use Rattle.nbd.specs.Contexts.{named_in}
use Rattle.nbd.proofs.contexts.named_in.Given as goal

abbrev pub invariant-loop-left : goal.invariant-loop-left
invariant-loop-left l = record {
  same : named_in l.fn.option l.fn.count l.fn.bytes l.fn.before ≡ named_in l.fn.option l.left l.rest l.is_named;
}

abbrev pub decreases-loop-left : goal.decreases-loop-left
decreases-loop-left l = l.left
