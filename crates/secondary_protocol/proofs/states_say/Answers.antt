use Rattle.secondary_protocol.proofs.Says.{states-say}
use Rattle.secondary_protocol.proofs.states_say.Goals as goal

pub returns : goal.returns
returns c = states-say
