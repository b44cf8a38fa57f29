-- What each end takes was due at the other end, and what is due there is accepted in its turn.
use Rattle.laws.proofs.Theorems.HonestLink.{every_step_is_honest}
use Rattle.laws.proofs.honest_link.Goals as goal

pub returns : goal.returns
returns c = record { honest = every_step_is_honest }
