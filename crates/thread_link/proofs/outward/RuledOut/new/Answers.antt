use Rattle.thread_link.proofs.Sending.{sends_new}
use Rattle.thread_link.proofs.outward.RuledOut.new.Goals as goal

pub invariant_of-result : goal.invariant_of-result
invariant_of-result g c = sends_new c.args.pieces c.new.result.went c.new-2.result.went c.requires c.new.ensures
