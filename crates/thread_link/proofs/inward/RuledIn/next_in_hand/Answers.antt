use Rattle.thread_link.proofs.Taking.{takes_frame}
use Rattle.thread_link.proofs.inward.RuledIn.next_in_hand.Goals as goal

pub invariant_of-self-2 : goal.invariant_of-self-2
invariant_of-self-2 g c =
    let e = c.self.inside in
    let cut = c.in_ok-frame.ensures in
    takes_frame e.pieces e.taken.went c.and-self-inside.result.went e.number e.front c.gather.new.front c.cut.new.self e.rest c.gather.new.rest
    c.in_ok-frame.frame c.self.invariant
    c.gather.ensures.bytes c.gather.ensures.later cut.0 cut.1 cut.2 c.and-self-inside.ensures
