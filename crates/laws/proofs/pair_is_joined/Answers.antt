-- Each event of the pair is at most one event of each node.
use Rattle.laws.proofs.Theorems.PairIsJoined.{every_run_is_joined}
use Rattle.laws.proofs.pair_is_joined.Goals as goal

pub returns : goal.returns
returns c = record { joined = every_run_is_joined }
