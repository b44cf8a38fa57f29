use Rattle.std.proofs.Common.{◌≡◌, ◌++◌}
use Rattle.std.specs.Prelude.{filter, map, vec_capacity}
use Rattle.transferlog.specs.Writes.{completed_of}
use Rattle.transferlog.proofs.Sweep.{goes}
use Rattle.transferlog.proofs.Unlinking.{completes, unlinked}
use Rattle.transferlog.proofs.ring.Ring.unlink_all.Given as goal

abbrev pub invariant-loop-number : goal.invariant-loop-number
invariant-loop-number l = record {
  completed : l.completed.items ≡ l.fn.completed.items ++ map completed_of (filter (goes completes l.number) l.fn.self.writes);
  capacity : vec_capacity l.completed ≡ vec_capacity l.fn.completed;
  ring : l.self ≡ record l.fn.self { writes = map (unlinked l.number) l.fn.self.writes };
}
