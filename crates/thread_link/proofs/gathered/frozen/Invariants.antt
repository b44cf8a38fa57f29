use Rattle.std.proofs.Common.{◌≡◌}
use Rattle.thread_link.proofs.gathered.frozen.Given as goal

abbrev pub invariant-loop : goal.invariant-loop
invariant-loop g l = l.chunk.items ≡ l.initial.chunk.items
