-- Each row computes. A search for its proof would take long to give up where the row is false.
use Rattle.std.proofs.Common.{refl}
use Rattle.primary_protocol.proofs.resyncs.Goals as goal

pub returns-clause-resynced : goal.returns-clause-resynced
returns-clause-resynced c = record { alone = refl; source = refl; marks = refl; copies = refl; ended = refl; identifiers = refl; again = refl; lost = refl }

pub returns-clause-among_writes : goal.returns-clause-among_writes
returns-clause-among_writes c = record { under_way = refl; unsent = refl; passed_over = refl }

pub returns-clause-cleared : goal.returns-clause-cleared
returns-clause-cleared c = record { before = refl; released = refl; to_the_end = refl; local_waits = refl; local_last = refl; failed = refl; later = refl }
