use Rattle.std.proofs.Common.{rules}
use Rattle.generations.proofs.decision.decide.Goals as goal

pub returns-then-own-peer-2 : goal.returns-then-own-peer-2
returns-then-own-peer-2 c = search rules

pub returns-then-peer-own : goal.returns-then-peer-own
returns-then-peer-own c = search rules

pub returns-then-is_historical : goal.returns-then-is_historical
returns-then-is_historical c = search rules

pub returns-then-is_historical-2 : goal.returns-then-is_historical-2
returns-then-is_historical-2 c = search rules

pub returns-then-own-peer-3 : goal.returns-then-own-peer-3
returns-then-own-peer-3 c = search rules
