-- Each row computes. A search for its proof would take long to give up where the row is false.
use Rattle.std.proofs.Common.{refl}
use Rattle.model.proofs.decisions.Goals as goal

pub returns-clause-decisions : goal.returns-clause-decisions
returns-clause-decisions c = record {
  same_current = refl;
  from_bitmap = refl;
  without_data = refl;
  from_history = refl;
  peer_goes_on = refl;
  peer_has_gone_on = refl;
  same_bitmap = refl;
  shared_history = refl;
  nothing_shared = refl;
}

pub returns-clause-turns : goal.returns-clause-turns
returns-clause-turns c = record { lost_once = refl; lost_again = refl; resync_starts = refl; resync_ends = refl }

pub returns-clause-freshness : goal.returns-clause-freshness
returns-clause-freshness c = record {
  new_word = refl;
  first_word = refl;
  zero = refl;
  current = refl;
  first_historical = refl;
  second_historical = refl;
  current_of_another = refl;
  bitmap_of_another = refl;
}

pub returns-clause-refused_hello : goal.returns-clause-refused_hello
returns-clause-refused_hello c = record { answers = refl; identifiers = refl; closed = refl }
