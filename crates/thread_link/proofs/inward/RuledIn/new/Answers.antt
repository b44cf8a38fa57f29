use Rattle.thread_link.proofs.Taking.{takes_new}
use Rattle.thread_link.proofs.inward.RuledIn.new.Goals as goal

pub invariant_of-result : goal.invariant_of-result
invariant_of-result g c = takes_new c.args.pieces c.new.result.went c.in_ok-new.field-0 c.requires c.new.ensures c.in_ok-new.ensures.empty
