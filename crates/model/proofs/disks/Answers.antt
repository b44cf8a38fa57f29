-- Each row computes. A search for its proof would take long to give up where the row is false.
use Rattle.std.proofs.Common.{refl}
use Rattle.model.proofs.disks.Goals as goal

pub returns-clause-ranges : goal.returns-clause-ranges
returns-clause-ranges c = record { answers = refl }

pub returns-clause-one_slot : goal.returns-clause-one_slot
returns-clause-one_slot c = record { answers = refl }

pub returns-clause-local_fault : goal.returns-clause-local_fault
returns-clause-local_fault c = record { answers = refl; marks = refl; new = refl; old = refl; goes_on = refl; receipt = refl; taken = refl }

pub returns-clause-late_fault : goal.returns-clause-late_fault
returns-clause-late_fault c = record { answers = refl; differs = refl; marks = refl }

pub returns-clause-peer_fault : goal.returns-clause-peer_fault
returns-clause-peer_fault c = record { answers = refl; differs = refl; closes = refl; marks = refl }

pub returns-clause-others_stay : goal.returns-clause-others_stay
returns-clause-others_stay c = record { before = refl; pending = refl; answers = refl; written = refl; drained = refl }
