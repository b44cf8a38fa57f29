use Rattle.thread_link.proofs.Gathering.{gathered_none}
use Rattle.std.proofs.Common.{true}
use Rattle.thread_link.proofs.gathered.Gathered.new.Goals as goal

pub invariant_of-result : goal.invariant_of-result
invariant_of-result c = (
  gathered_none c.renew.new.chunk.items c.renew.new.chunk.spare true c.renew.ensures.empty (λ _. c.in_ok-renew.ensures.room),
  c.new.ensures.items,
)
