use Rattle.std.proofs.Common.{◌≡◌, drop}
use Rattle.primary_protocol.specs.Core.{leaving}
use Rattle.primary_core.proofs.report.leave.Given as goal

-- what the writes to come leave of this activity is what all leave of the first one
abbrev pub invariant-loop-write : goal.invariant-loop-write
invariant-loop-write l = leaving (drop l.write-index l.released) l.activity ≡ leaving l.released l.fn.activity
