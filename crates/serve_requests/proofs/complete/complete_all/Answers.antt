use Rattle.std.proofs.Common.{◌∙◌}
use Rattle.std.proofs.lemmas.Result.{on_ok_weaker}
use Rattle.told.proofs.Seeing.{prefix-on}
use Rattle.serve_requests.proofs.Appending.{left-item, not-empty, one-more}
use Rattle.serve_requests.proofs.Telling.{given-more}
use Rattle.serve_requests.proofs.complete.complete_all.Goals as goal

pub loop-write-preserved : goal.loop-write-preserved
loop-write-preserved g c = record {
  done = on_ok_weaker c.loop-write.all (λ done. one-more _ _ _ _ _ _ _ done c.in_default.ensures.one) c.loop-write.invariant.done;
  kept = given-more c.loop-write.me.log c.complete.new.me.log c.args.receipts.now.items c.loop-write.receipts.items c.complete.new.receipts.items
      c.complete.ensures.goes_on c.loop-write.invariant.kept c.complete.ensures.kept;
  goes_on = prefix-on c.args.me.now.log c.loop-write.me.log c.complete.new.me.log c.loop-write.invariant.goes_on c.complete.ensures.goes_on;
  mine = c.complete.ensures.mine ∙ c.loop-write.invariant.mine;
  none = λ empty. absurd (not-empty c.loop-write.yielded c.in-Some.write empty);
  left = left-item c.loop-write.yielded c.loop-write.write-iterator.rest.items c.next.new.self.rest.items c.args.begun.items c.in-Some.write
      c.loop-write.invariant.left c.in-Some.ensures.steps.0;
}

pub loop-write-preserved-in-Err : goal.loop-write-preserved-in-Err
loop-write-preserved-in-Err g c = record {
  done = tt;
  kept = given-more c.loop-write.me.log c.complete.new.me.log c.args.receipts.now.items c.loop-write.receipts.items c.complete.new.receipts.items
      c.complete.ensures.goes_on c.loop-write.invariant.kept c.complete.ensures.kept;
  none = λ empty. absurd (not-empty c.loop-write.yielded c.in-Some.write empty);
  left = left-item c.loop-write.yielded c.loop-write.write-iterator.rest.items c.next.new.self.rest.items c.args.begun.items c.in-Some.write
      c.loop-write.invariant.left c.in-Some.ensures.steps.0;
  goes_on = prefix-on c.args.me.now.log c.loop-write.me.log c.complete.new.me.log c.loop-write.invariant.goes_on c.complete.ensures.goes_on;
  mine = c.complete.ensures.mine ∙ c.loop-write.invariant.mine;
}
