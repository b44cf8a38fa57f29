-- Each row computes. A search for its proof would take long to give up where the row is false.
use Rattle.std.proofs.Common.{refl}
use Rattle.model.proofs.tests_in_order.Goals as goal

pub returns-clause-submit : goal.returns-clause-submit
returns-clause-submit c = record { full = refl; free = refl }

pub returns-clause-receive : goal.returns-clause-receive
returns-clause-receive c = record { full = refl; applied = refl; nothing = refl; closed = refl }

pub returns-clause-peer_fault : goal.returns-clause-peer_fault
returns-clause-peer_fault c = record { answers = refl }
