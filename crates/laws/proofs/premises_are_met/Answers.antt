-- By computation.
use Rattle.laws.proofs.Theorems.PremisesAreMet.{openings_are_met, one_write_is_met, cover_is_met, reflection_is_met, rest_is_met, order_is_met}
use Rattle.laws.proofs.Theorems.PremisesAreMet.{whole_epoch_is_met, refused_frames_are_met, releases_are_met}
use Rattle.laws.proofs.premises_are_met.Goals as goal

pub returns-clause-openings : goal.returns-clause-openings
returns-clause-openings c = openings_are_met

pub returns-clause-write : goal.returns-clause-write
returns-clause-write c = one_write_is_met

pub returns-clause-cover : goal.returns-clause-cover
returns-clause-cover c = cover_is_met

pub returns-clause-reflection : goal.returns-clause-reflection
returns-clause-reflection c = reflection_is_met

pub returns-clause-rest : goal.returns-clause-rest
returns-clause-rest c = rest_is_met

pub returns-clause-order : goal.returns-clause-order
returns-clause-order c = order_is_met

pub returns-clause-whole_epoch : goal.returns-clause-whole_epoch
returns-clause-whole_epoch c = whole_epoch_is_met

pub returns-clause-refused : goal.returns-clause-refused
returns-clause-refused c = refused_frames_are_met

pub returns-clause-releases : goal.returns-clause-releases
returns-clause-releases c = releases_are_met
