use Rattle.std.proofs.Common.{[]}
use Rattle.pumps.specs.Carried.{IsCarriedIn}
use Rattle.pumps.proofs.inward.pump_in.Given as goal

abbrev pub invariant-loop : goal.invariant-loop
invariant-loop g l = IsCarriedIn l.initial.row l.row (g.D.Read.remaining l.initial.reader) (g.D.Read.remaining l.reader) []
