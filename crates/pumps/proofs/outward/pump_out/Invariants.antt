use Rattle.std.proofs.Common.{[]}
use Rattle.pumps.specs.Carried.{IsCarriedOut}
use Rattle.pumps.proofs.outward.pump_out.Given as goal

abbrev pub invariant-loop : goal.invariant-loop
invariant-loop g l = IsCarriedOut l.initial.row l.row (g.W.Write.contents l.initial.writer) (g.W.Write.contents l.writer) []
