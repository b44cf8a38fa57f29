use Rattle.std.proofs.Common.{◌≡◌, drop}
use Rattle.primary_protocol.specs.Core.{entering}
use Rattle.primary_core.proofs.report.enter.Given as goal

-- what the writes to come make of these entries is what all make of the first ones
abbrev pub invariant-loop-write : goal.invariant-loop-write
invariant-loop-write l = entering (drop l.write-index l.completed) l.entries ≡ entering l.completed l.fn.entries
