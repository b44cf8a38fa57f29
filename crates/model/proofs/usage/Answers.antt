-- Each row computes. A search for its proof would take long to give up where the row is false.
use Rattle.std.proofs.Common.{refl}
use Rattle.model.proofs.usage.Goals as goal

pub returns-clause-usage : goal.returns-clause-usage
returns-clause-usage c = record { waiting = refl; two_epochs = refl; started = refl; nearly = refl; ended = refl }

pub returns-clause-never_opened : goal.returns-clause-never_opened
returns-clause-never_opened c = record { number = refl; is_open = refl; first = refl; unseen = refl; untaken = refl; there = refl; beyond = refl }

pub returns-clause-settlements : goal.returns-clause-settlements
returns-clause-settlements c = record {
  through = refl;
  failed = refl;
  twice = refl;
  strange = refl;
  faulty = refl;
  unfinished = refl;
  larger = refl;
  smaller = refl;
}

pub returns-clause-unanswered : goal.returns-clause-unanswered
returns-clause-unanswered c = record { unsent = refl; sent = refl; one_of_two = refl }

pub returns-clause-failed_is_not_whole : goal.returns-clause-failed_is_not_whole
returns-clause-failed_is_not_whole c = record { written = refl; failed = refl; pending = refl; done = refl }
