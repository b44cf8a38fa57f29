-- Each row computes. A search for its proof would take long to give up where the row is false.
use Rattle.std.proofs.Common.{refl}
use Rattle.primary_protocol.proofs.writes.Goals as goal

pub returns-clause-synchronous : goal.returns-clause-synchronous
returns-clause-synchronous c = record { hello = refl; one_write = refl; held = refl }

pub returns-clause-asynchronous : goal.returns-clause-asynchronous
returns-clause-asynchronous c = record { sent_first = refl; local_first = refl }

pub returns-clause-lost : goal.returns-clause-lost
returns-clause-lost c = record { marks = refl; unsent = refl; tuple = refl; foreign = refl }
