-- Each row computes. A search for its proof would take long to give up where the row is false.
use Rattle.std.proofs.Common.{refl}
use Rattle.primary_protocol.proofs.hellos.Goals as goal

pub returns : goal.returns
returns c = record { refused = record { used = refl; unrelated = refl; shut = refl; tuple = refl } }
