use Rattle.std.proofs.Common.{◌≡◌, ◌++◌, map}
use mathlib.Core.List.{IsPrefix}
use Rattle.nbd.specs.Pieces.{pair_of}
use Rattle.told.specs.Log.{SaysHeldSince}
use Rattle.serve_requests.specs.Reads.{AreHeld}
use Rattle.serve_requests.proofs.perform.read_blocks.Given as goal

abbrev pub invariant-loop-range : goal.invariant-loop-range
invariant-loop-range g l = record {
  held : AreHeld (SaysHeldSince l.fn.me.log l.me.log) (map pair_of l.yielded) l.data.items;
  left : map pair_of l.yielded ++ l.range-iterator ≡ l.fn.ranges;
  goes_on : IsPrefix l.fn.me.log l.me.log;
  mine : l.me.own ≡ l.fn.me.own;
}
