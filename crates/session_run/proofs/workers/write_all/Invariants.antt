use Rattle.std.proofs.Common.{◌≡◌, ◌++◌, length}
use Rattle.session_run.specs.Plan.{AreWriters}
use Rattle.session_run.proofs.workers.write_all.Given as goal

abbrev pub invariant-loop-written : goal.invariant-loop-written
invariant-loop-written g l = record {
  left : l.yielded ++ l.written-iterator.rest.items ≡ l.initial.written-iterator.rest.items;
  size : length l.all.items ≡ length l.yielded;
  writers : AreWriters l.fn.options l.all.items;
}
