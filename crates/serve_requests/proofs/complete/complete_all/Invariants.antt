use Rattle.std.proofs.Common.{◌≡◌, List, [], ◌++◌, map, true, is_ok, OnOk}
use Rattle.std.specs.List.{All}
use mathlib.Core.List.{IsPrefix}
use Rattle.model.specs.Settlement.{Receipt}
use Rattle.told.specs.Log.{SaysGiven}
use Rattle.serve_requests.specs.Receipts.{HasMore, job_of, receipt_job}
use Rattle.serve_requests.proofs.complete.complete_all.Given as goal

abbrev pub invariant-loop-write : goal.invariant-loop-write
invariant-loop-write g l = record {
  done : OnOk l.all (HasMore receipt_job (map job_of l.yielded) l.fn.receipts.items l.receipts.items);
  kept : (more : List Receipt) × (l.receipts.items ≡ l.fn.receipts.items ++ more) × All (SaysGiven l.me.log) more;
  none : l.yielded ≡ [] → is_ok l.all ≡ true;
  left : l.yielded ++ l.write-iterator.rest.items ≡ l.fn.begun.items;
  goes_on : IsPrefix l.fn.me.log l.me.log;
  mine : l.me.own ≡ l.fn.me.own;
}
