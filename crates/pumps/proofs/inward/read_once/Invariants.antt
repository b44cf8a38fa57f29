use Rattle.std.specs.Io.KnownBytes.{Keeps}
use Rattle.pumps.proofs.inward.read_once.Given as goal

abbrev pub invariant-loop : goal.invariant-loop
invariant-loop g l = Keeps (g.D.Read.remaining l.initial.reader) (g.D.Read.remaining l.reader)
