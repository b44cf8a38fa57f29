-- Each row computes. A search for its proof would take long to give up where the row is false.
use Rattle.std.proofs.Common.{refl}
use Rattle.model.proofs.writes.Goals as goal

pub returns-clause-one_write : goal.returns-clause-one_write
returns-clause-one_write c = record { connects = refl; answers = refl; identifiers = refl; primary = refl; secondary = refl }

pub returns-clause-two_in_turn : goal.returns-clause-two_in_turn
returns-clause-two_in_turn c = record { answers = refl; unreleased = refl; next = refl; same = refl; local = refl; ahead = refl }

pub returns-clause-asynchronous : goal.returns-clause-asynchronous
returns-clause-asynchronous c = record { sent_first = refl; written_first = refl }

pub returns-clause-received_and_lost : goal.returns-clause-received_and_lost
returns-clause-received_and_lost c = record { answers = refl; unmarked = refl; differs = refl; closes = refl; marks = refl; identifiers = refl }

pub returns-clause-overlapping : goal.returns-clause-overlapping
returns-clause-overlapping c = record { answers = refl }

pub returns-clause-two_epochs : goal.returns-clause-two_epochs
returns-clause-two_epochs c = record { answers = refl }

pub returns-clause-full : goal.returns-clause-full
returns-clause-full c = record { link = refl; log = refl }

pub returns-clause-at_the_start : goal.returns-clause-at_the_start
returns-clause-at_the_start c = record { alone = refl; linked = refl }
