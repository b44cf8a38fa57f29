use Rattle.mirror.specs.Runs.{LocalRuns, PeerRuns}
use Rattle.mirror.proofs.working.work.Given as goal

-- What was done so far is a run of each node.
abbrev pub invariant-loop : goal.invariant-loop
invariant-loop g l = LocalRuns l.fn.local l.local × PeerRuns l.fn.peer l.peer
