use Rattle.serve_requests.proofs.Answering.{answered-more}
use Rattle.serve_requests.proofs.answered.Answered.end.Goals as goal

pub invariant_of-self : goal.invariant_of-self
invariant_of-self g c = answered-more c.self.inside.seen.log c.begun.inside.seen.log c.end-ended.new.me.log c.seen.result.log c.learn.new.self.log
    c.learn-2.new.self.log c.learn.ensures c.learn-2.ensures c.seen.ensures c.begun.inside.under_way c.end-ended.result.is_done
    c.self.inside.receipts.items c.end-ended.new.receipts.items c.begun.invariant c.end-ended.ensures.begun c.end-ended.ensures.receipts
    c.end-ended.ensures.kept c.self.invariant
