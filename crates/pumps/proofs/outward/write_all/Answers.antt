-- What is written after the first bytes is the front of the rest.
use Rattle.pumps.proofs.Carrying.{append_more, within_rest}
use Rattle.pumps.proofs.outward.write_all.Goals as goal

pub loop-count-preserved : goal.loop-count-preserved
loop-count-preserved g c =
    let bytes = c.args.bytes.now in
    let sent = c.loop-count.invariant in
    let more = c.write_once-more in (
      within_rest bytes c.loop-count.count more.result sent.0 more.ensures.within,
      append_more _ _ _ bytes c.loop-count.count more.result sent.1 more.ensures.written,
    )
