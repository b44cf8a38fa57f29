-- By the invariants of a secondary's runs.
use Rattle.laws.proofs.Theorems.SecondaryAlone.{holds_earlier_epochs, drains_first, stays_closed_too}
use Rattle.laws.proofs.secondary_alone.Goals as goal

pub returns-clause-epochs : goal.returns-clause-epochs
returns-clause-epochs c = holds_earlier_epochs

pub returns-clause-drained : goal.returns-clause-drained
returns-clause-drained c = drains_first

pub returns-clause-closed : goal.returns-clause-closed
returns-clause-closed c = stays_closed_too
