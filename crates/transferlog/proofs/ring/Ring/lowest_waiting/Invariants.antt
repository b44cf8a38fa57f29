use Rattle.transferlog.specs.Ring.{Each, WaitsFrom}
use Rattle.transferlog.proofs.ring.Ring.lowest_waiting.Given as goal

abbrev pub invariant-loop-number : goal.invariant-loop-number
invariant-loop-number l = Each (WaitsFrom l.number) l.self.writes
