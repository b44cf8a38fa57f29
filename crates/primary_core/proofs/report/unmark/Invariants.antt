use Rattle.std.proofs.Common.{◌≡◌, drop, length}
use Rattle.std.specs.List.{AllByRecursion}
use Rattle.primary_protocol.specs.Core.{unmarking}
use Rattle.primary_core.specs.Kept.{LiesInside}
use Rattle.primary_core.proofs.report.unmark.Given as goal

-- what the writes to come clear of these marks is what all clear of the first ones
abbrev pub invariant-loop-write : goal.invariant-loop-write
invariant-loop-write l = record {
  size : length l.marks ≡ length l.fn.marks;
  inside : AllByRecursion (LiesInside (length l.marks)) (drop l.write-index l.log.state.released);
  rest : unmarking (drop l.write-index l.log.state.released) l.log.state.last_writes l.marks ≡ unmarking l.log.state.released l.log.state.last_writes l.fn.marks;
}
