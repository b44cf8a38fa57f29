-- The end is the one that may take, and only pieces of earlier connections were popped.
use Rattle.std.proofs.Common.{◌≡◌, true, false, []}
use Rattle.crossbeam_queue.specs.Passes as passes
use Rattle.thread_link.specs.Inward.{IsDropped}
use Rattle.thread_link.specs.Row.{log}
use Rattle.thread_link.proofs.pieces.PieceIn.pop_from.Given as goal

abbrev pub invariant-loop : goal.invariant-loop
invariant-loop g l =
    let row = l.self-inside.1.1.0 in
    let pass = l.self-inside.1.1.1.0 in
    record {
      own : passes.IsPassOf row.value pass;
      takes : passes.view pass ≡ log false true [] (passes.view pass).taken;
      dropped : IsDropped l.number l.fn.self (record { row = pass.table_id; pieces = (passes.view pass).taken }) [];
    }
