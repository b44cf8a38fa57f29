-- Each row computes. A search for its proof would take long to give up where the row is false.
use Rattle.std.proofs.Common.{refl}
use Rattle.model.proofs.closes.Goals as goal

pub returns-clause-lost_link : goal.returns-clause-lost_link
returns-clause-lost_link c = record { answers = refl; marks = refl; primary = refl }

pub returns-clause-reconnected : goal.returns-clause-reconnected
returns-clause-reconnected c = record { answers = refl; identifiers = refl; resyncs = refl }

pub returns-clause-acknowledged_first : goal.returns-clause-acknowledged_first
returns-clause-acknowledged_first c = record { answers = refl; primary = refl; differs = refl; closes = refl; marks = refl }
