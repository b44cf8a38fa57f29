-- A front of the pieces was begun, and the others are left.
use Rattle.std.proofs.Common.{length}
use mathlib.Core.List.{IsPrefix}
use Rattle.told.specs.Log.{WasTold}
use Rattle.serve_requests.specs.Places.{AreOwn, IsBegunFor, IsFrontTo}
use Rattle.serve_requests.proofs.perform.begin_pieces.Given as goal

abbrev pub invariant-loop-pieces : goal.invariant-loop-pieces
invariant-loop-pieces g l = record {
  done : IsFrontTo (IsBegunFor (WasTold l.me.log)) l.fn.pieces l.pieces l.begun.items;
  goes_on : IsPrefix l.fn.me.log l.me.log;
  mine : AreOwn l.fn.begun.items l.begun.items l.fn.me.own l.me.own;
}

abbrev pub decreases-loop-pieces : goal.decreases-loop-pieces
decreases-loop-pieces g l = length l.pieces
