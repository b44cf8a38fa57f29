use Rattle.std.proofs.Common.{◌≡◌, ◌++◌}
use Rattle.std.specs.Prelude.{filter, map, vec_capacity}
use Rattle.transferlog.specs.Writes.{is_released, released_of}
use Rattle.transferlog.proofs.Sweep.{goes, remains}
use Rattle.transferlog.proofs.ring.Ring.release_all.Given as goal

abbrev pub invariant-loop-number : goal.invariant-loop-number
invariant-loop-number l = record {
  released : l.released.items ≡ l.fn.released.items ++ map released_of (filter (goes (is_released l.acknowledged_through) l.number) l.fn.self.writes);
  capacity : vec_capacity l.released ≡ vec_capacity l.fn.released;
  writes : l.self.writes ≡ filter (remains (is_released l.acknowledged_through) l.number) l.fn.self.writes;
  next : l.self.next ≡ l.fn.self.next;
}
