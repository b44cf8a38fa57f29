use Rattle.std.proofs.Common.{◌≡◌, ◌*◌, ◌++◌, length}
use Rattle.session_run.specs.Plan.{AreOfPlan}
use Rattle.told.specs.Log.{SaysAccepted}
use Rattle.session_run.proofs.written.gather.Given as goal

abbrev pub invariant-loop-one : goal.invariant-loop-one
invariant-loop-one g l = record {
  same : l.log ≡ l.initial.log;
  left : l.yielded ++ l.one-iterator.rest.items ≡ l.initial.one-iterator.rest.items;
  size : length l.all.items ≡ length l.yielded * l.fn.options.writes;
  plan : AreOfPlan (SaysAccepted l.initial.log.log) l.fn.options l.all.items;
}
