use Rattle.std.proofs.Common.{◌≤◌, ◌-◌, ◌*◌}
use Rattle.blocks.specs.Ranges.{is_between}
use Rattle.kept_nodes.proofs.Filed.{Adds}
use Rattle.kept_nodes.proofs.known.add_extent.Given as goal

abbrev pub invariant-loop-first : goal.invariant-loop-first
invariant-loop-first l = record {
  from : l.extent * 1024 ≤ l.first;
  below : l.first ≤ l.end;
  adds : Adds l.fn.known l.known (is_between (l.extent * 1024) (l.first - l.extent * 1024));
}

abbrev pub decreases-loop-first : goal.decreases-loop-first
decreases-loop-first l = l.end - l.first
