use Rattle.std.proofs.Common.{◌≡◌, None}
use Rattle.bench.proofs.links.measure.send_all.Given as goal

abbrev pub invariant-loop : goal.invariant-loop
invariant-loop g l = (g.O.FrameOut.state l.end).partly ≡ None
