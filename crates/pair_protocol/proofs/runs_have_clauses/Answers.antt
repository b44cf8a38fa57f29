use Rattle.pair_protocol.proofs.Clauses.{has-clauses}
use Rattle.pair_protocol.proofs.runs_have_clauses.Goals as goal

pub returns : goal.returns
returns c = has-clauses
