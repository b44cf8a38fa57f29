use Rattle.transferlog.specs.Ring.{Each}
use Rattle.transferlog.proofs.Answered.{IsAnsweredBelow}
use Rattle.transferlog.proofs.ring.Ring.lacks_answer.Given as goal

abbrev pub invariant-loop-number : goal.invariant-loop-number
invariant-loop-number l = Each (IsAnsweredBelow l.first l.number) l.fn.self.writes
