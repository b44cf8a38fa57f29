use Rattle.std.proofs.Common.{◌≡◌}
use Rattle.std.specs.Prelude.{IfSome}
use Rattle.packets.specs.Cutting.{IsCut}
use Rattle.test_parts.proofs.ruled.threads.send.Given as goal

abbrev pub invariant-loop : goal.invariant-loop
invariant-loop g l = record { whole : IsCut l.frame; again : IfSome (g.O.FrameOut.state l.end).partly (λ begun. begun ≡ l.frame) }
