use Rattle.std.proofs.Common.{◌≡◌, drop}
use Rattle.primary_protocol.specs.Core.{freeing}
use Rattle.primary_core.proofs.report.free.Given as goal

-- what the writes to come leave of these holdings is what all leave of the first ones
abbrev pub invariant-loop-write : goal.invariant-loop-write
invariant-loop-write l = freeing (drop l.write-index l.completed) l.held ≡ freeing l.completed l.fn.held
