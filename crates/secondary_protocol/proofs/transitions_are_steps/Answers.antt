use Rattle.secondary_protocol.proofs.Steps.Opens.{fresh-is, opens-agree, closes-agree}
use Rattle.secondary_protocol.proofs.Steps.Peers.{applies-agree, faults-agree}
use Rattle.secondary_protocol.proofs.Steps.Pushes.{pushes-agree}
use Rattle.secondary_protocol.proofs.Steps.Receives.{receives-agree}
use Rattle.secondary_protocol.proofs.transitions_are_steps.Goals as goal

pub returns-clause-fresh : goal.returns-clause-fresh
returns-clause-fresh c = fresh-is

pub returns-clause-opens : goal.returns-clause-opens
returns-clause-opens c = opens-agree

pub returns-clause-receives : goal.returns-clause-receives
returns-clause-receives c = receives-agree

pub returns-clause-applies : goal.returns-clause-applies
returns-clause-applies c = applies-agree

pub returns-clause-faults : goal.returns-clause-faults
returns-clause-faults c = faults-agree

pub returns-clause-pushes : goal.returns-clause-pushes
returns-clause-pushes c = pushes-agree

pub returns-clause-closes : goal.returns-clause-closes
returns-clause-closes c = closes-agree
