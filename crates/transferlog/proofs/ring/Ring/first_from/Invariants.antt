use Rattle.transferlog.specs.Ring.{Each}
use Rattle.transferlog.proofs.FirstFrom.{LiesFrom}
use Rattle.transferlog.proofs.ring.Ring.first_from.Given as goal

abbrev pub invariant-loop-number : goal.invariant-loop-number
invariant-loop-number l = Each (LiesFrom l.from l.number) l.self.writes
