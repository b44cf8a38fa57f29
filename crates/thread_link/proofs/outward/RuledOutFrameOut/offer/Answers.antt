-- The frame went as a whole, or not at all.
use Rattle.std.proofs.Common.{arith}
use Rattle.thread_link.proofs.Carrying.{cut_most}
use Rattle.thread_link.proofs.Sending.{sends_frame, sends_still}
use Rattle.thread_link.proofs.outward.RuledOutFrameOut.offer.Goals as goal

pub push_frame-requires-clause-few : goal.push_frame-requires-clause-few
push_frame-requires-clause-few g c = cut_most c.args.frame c.requires.whole

pub push_frame-requires-clause-some : goal.push_frame-requires-clause-some
push_frame-requires-clause-some g c = omega (arith, c.requires.whole.headed)

pub invariant_of-self : goal.invariant_of-self
invariant_of-self g c =
    let e = c.self.inside in
    sends_frame e.pieces c.push_frame.new.self e.sent.went c.and-sent.result.went e.number e.part.went.frames c.new-self-inside.result.went.frames
    c.args.frame c.self.invariant c.requires.whole c.in-Ok.ensures.pushed c.and-sent.ensures

pub invariant_of-self-in-Err : goal.invariant_of-self-in-Err
invariant_of-self-in-Err g c =
    let e = c.self.inside in
    sends_still e.pieces c.push_frame.new.self e.sent.went e.number e.part.went.frames c.and-part.result.went.frames c.self.invariant
    c.in-Err.ensures.unchanged
