use Rattle.std.proofs.Common.{◌≡◌, vec_len}
use Rattle.session_run.specs.Plan.{AreOfWriter}
use Rattle.told.specs.Log.{SaysAccepted}
use Rattle.session_run.proofs.workers.write_turns.Given as goal

abbrev pub invariant-loop-turn : goal.invariant-loop-turn
invariant-loop-turn g l = record {
  count : vec_len l.receipts ≡ l.turn;
  plan : AreOfWriter (SaysAccepted l.me.log) l.fn.options l.fn.writer l.receipts.items;
}
