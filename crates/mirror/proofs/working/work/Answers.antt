use Rattle.mirror.proofs.Runs.{local_on, peer_on}
use Rattle.mirror.proofs.working.work.Goals as goal

pub returns-in_err-local_went-clause-local : goal.returns-in_err-local_went-clause-local
returns-in_err-local_went-clause-local g c = local_on c.loop.invariant.0 c.local_turn.ensures.runs

pub returns-in_err-peer_went-clause-local : goal.returns-in_err-peer_went-clause-local
returns-in_err-peer_went-clause-local g c = local_on c.loop.invariant.0 c.local_turn.ensures.runs

pub returns-in_err-peer_went-clause-peer : goal.returns-in_err-peer_went-clause-peer
returns-in_err-peer_went-clause-peer g c = peer_on c.loop.invariant.1 c.peer_turn.ensures.runs

pub returns-then-not-peer_went-clause-local : goal.returns-then-not-peer_went-clause-local
returns-then-not-peer_went-clause-local g c = local_on c.loop.invariant.0 c.local_turn.ensures.runs

pub returns-then-not-peer_went-clause-peer : goal.returns-then-not-peer_went-clause-peer
returns-then-not-peer_went-clause-peer g c = peer_on c.loop.invariant.1 c.peer_turn.ensures.runs

pub loop-preserved : goal.loop-preserved
loop-preserved g c = (
  local_on c.loop.invariant.0 c.local_turn.ensures.runs,
  peer_on c.loop.invariant.1 c.peer_turn.ensures.runs,
)
