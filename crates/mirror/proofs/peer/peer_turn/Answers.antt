use Rattle.mirror.proofs.Runs.{peer_on}
use Rattle.mirror.proofs.peer.peer_turn.Goals as goal

pub returns-in_err-applied-clause-runs : goal.returns-in_err-applied-clause-runs
returns-in_err-applied-clause-runs g c = peer_on c.take.ensures.runs c.apply.ensures.runs

pub returns-in_err-sent-clause-runs : goal.returns-in_err-sent-clause-runs
returns-in_err-sent-clause-runs g c = peer_on (peer_on c.take.ensures.runs c.apply.ensures.runs) c.send.ensures.runs

pub returns-then-applied-clause-runs : goal.returns-then-applied-clause-runs
returns-then-applied-clause-runs g c = peer_on (peer_on c.take.ensures.runs c.apply.ensures.runs) c.send.ensures.runs

pub returns-else-applied-clause-runs : goal.returns-else-applied-clause-runs
returns-else-applied-clause-runs g c = peer_on (peer_on c.take.ensures.runs c.apply.ensures.runs) c.send.ensures.runs
