-- By the invariants of a primary's runs.
use Rattle.laws.proofs.Theorems.PrimaryAlone.{writes_once, streams_are_lawful, stays_closed, extents_are_few, releases_in_order, journal_is_on_disk}
use Rattle.laws.proofs.primary_alone.Goals as goal

pub returns-clause-once : goal.returns-clause-once
returns-clause-once c = writes_once

pub returns-clause-lawful : goal.returns-clause-lawful
returns-clause-lawful c = streams_are_lawful

pub returns-clause-closed : goal.returns-clause-closed
returns-clause-closed c = stays_closed

pub returns-clause-extents : goal.returns-clause-extents
returns-clause-extents c = extents_are_few

pub returns-clause-released : goal.returns-clause-released
returns-clause-released c = releases_in_order

pub returns-clause-on_disk : goal.returns-clause-on_disk
returns-clause-on_disk c = journal_is_on_disk
