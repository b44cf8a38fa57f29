-- Each row computes. A search for its proof would take long to give up where the row is false.
use Rattle.std.proofs.Common.{refl}
use Rattle.model.proofs.releases.Goals as goal

pub returns-clause-cleared : goal.returns-clause-cleared
returns-clause-cleared c = record { answers = refl; before = refl; released = refl; marks = refl; next = refl }

pub returns-clause-cleared_to_the_end : goal.returns-clause-cleared_to_the_end
returns-clause-cleared_to_the_end c = record { answers = refl; identifiers = refl }

pub returns-clause-cleared_under_way : goal.returns-clause-cleared_under_way
returns-clause-cleared_under_way c = record { answers = refl; marks = refl }

pub returns-clause-cleared_by_the_local_write : goal.returns-clause-cleared_by_the_local_write
returns-clause-cleared_by_the_local_write c = record { submitted = refl; before = refl; done_here = refl; marks = refl }

pub returns-clause-under_a_later_write : goal.returns-clause-under_a_later_write
returns-clause-under_a_later_write c = record { marks = refl }

pub returns-clause-failed_clears_nothing : goal.returns-clause-failed_clears_nothing
returns-clause-failed_clears_nothing c = record { answers = refl; marks = refl }
