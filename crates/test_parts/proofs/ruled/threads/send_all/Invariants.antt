use Rattle.std.proofs.Common.{◌≡◌, None}
use Rattle.test_parts.proofs.ruled.threads.send_all.Given as goal

abbrev pub invariant-loop-place : goal.invariant-loop-place
invariant-loop-place g l = (g.O.FrameOut.state l.end).partly ≡ None
