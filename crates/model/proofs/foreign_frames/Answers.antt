-- Each row computes. A search for its proof would take long to give up where the row is false.
use Rattle.std.proofs.Common.{refl}
use Rattle.model.proofs.foreign_frames.Goals as goal

pub returns-clause-to_secondary : goal.returns-clause-to_secondary
returns-clause-to_secondary c = record { answers = refl; closed = refl; applies = refl }

pub returns-clause-to_primary : goal.returns-clause-to_primary
returns-clause-to_primary c = record { answers = refl; closed = refl; marks = refl; identifiers = refl; too_early = refl }

pub returns-clause-after_one_write : goal.returns-clause-after_one_write
returns-clause-after_one_write c = record {
  wrong_size = refl;
  repeated = refl;
  marks = refl;
  closed = refl;
  identifiers = refl;
  marks_too = refl;
  identifiers_too = refl;
}

pub returns-clause-acknowledged_once : goal.returns-clause-acknowledged_once
returns-clause-acknowledged_once c = record { first = refl; second = refl; closed = refl; marks = refl; identifiers = refl }
