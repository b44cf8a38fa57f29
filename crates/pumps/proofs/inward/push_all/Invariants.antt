use Rattle.std.proofs.Common.{◌≤◌, length, take}
use Rattle.pumps.specs.Carried.{PushesBytes}
use Rattle.pumps.proofs.inward.push_all.Given as goal

abbrev pub invariant-loop : goal.invariant-loop
invariant-loop g l = (l.count ≤ length l.bytes) × PushesBytes l.initial.row l.row (take l.count l.bytes)
