-- What is pushed after the first pieces is the front of the rest.
use Rattle.pumps.proofs.Carrying.{push_more, within_rest}
use Rattle.pumps.proofs.inward.push_all.Goals as goal

pub loop-preserved-then-more-gt0 : goal.loop-preserved-then-more-gt0
loop-preserved-then-more-gt0 g c =
    let bytes = c.args.bytes.now in
    let sent = c.loop.invariant in
    let more = c.push_once-more in
    (within_rest bytes c.loop.count more.result sent.0 more.ensures.within, push_more _ _ _ bytes c.loop.count more.result sent.1 more.ensures.pushed)
