use Rattle.told.specs.Log.{WasTold}
use Rattle.serve_requests.proofs.Answering.{answered-both, none-answered}
use Rattle.serve_requests.proofs.answered.Answered.take.Goals as goal

pub invariant_of-self-2 : goal.invariant_of-self-2
invariant_of-self-2 g c = answered-both c.self.inside.seen.log c.other.inside.seen.log c.learn.new.self.log c.learn.ensures c.self.inside.receipts.items
    c.other.inside.receipts.items c.append.new.self.items c.in_ok-append.ensures.items c.self.invariant c.other.invariant

pub invariant_of-other-2 : goal.invariant_of-other-2
invariant_of-other-2 g c = none-answered (WasTold c.other.inside.seen.log) c.append.new.other.items c.in_ok-append.ensures.other_items
