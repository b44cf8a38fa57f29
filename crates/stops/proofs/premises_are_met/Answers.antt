-- By computation.
use Rattle.stops.proofs.Premises.{sessions_are_left, return_is_met, growth_is_met}
use Rattle.stops.proofs.premises_are_met.Goals as goal

pub returns-clause-sessions : goal.returns-clause-sessions
returns-clause-sessions c = sessions_are_left

pub returns-clause-returned : goal.returns-clause-returned
returns-clause-returned c = return_is_met

pub returns-clause-growth : goal.returns-clause-growth
returns-clause-growth c = growth_is_met
