-- Each row computes. A search for its proof would take long to give up where the row is false.
use Rattle.std.proofs.Common.{refl}
use Rattle.model.proofs.resyncs.Goals as goal

pub returns-clause-nothing_marked : goal.returns-clause-nothing_marked
returns-clause-nothing_marked c = record { answers = refl; source = refl; sends = refl; adopted = refl }

pub returns-clause-empty_peer : goal.returns-clause-empty_peer
returns-clause-empty_peer c = record { answers = refl; identifiers = refl; marks = refl }

pub returns-clause-one_block : goal.returns-clause-one_block
returns-clause-one_block c = record { answers = refl; marks = refl }

pub returns-clause-written_alone : goal.returns-clause-written_alone
returns-clause-written_alone c = record { answers = refl; marks = refl; connects = refl }

pub returns-clause-resynced : goal.returns-clause-resynced
returns-clause-resynced c = record { target = refl; first = refl; second = refl; source = refl; third = refl; adopted = refl; unmarked = refl; same = refl }

pub returns-clause-broken_end : goal.returns-clause-broken_end
returns-clause-broken_end c = record { lost = refl; connects = refl; marks = refl; identifiers = refl }

pub returns-clause-among_writes : goal.returns-clause-among_writes
returns-clause-among_writes c = record { under_way = refl; passed_over = refl }
