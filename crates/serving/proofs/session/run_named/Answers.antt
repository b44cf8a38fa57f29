use Rattle.serving.proofs.Ended.{session-of}
use Rattle.serving.proofs.session.run_named.Goals as goal

pub returns-in-Ok : goal.returns-in-Ok
returns-in-Ok g c = record {
  session = session-of g.L.Linked.opening c.args.totals c.settle_session.result c.receipts_of-receipts.result c.in-Ok.left.primary c.in-Ok.left.secondary
      c.in-Ok.left.log.log c.receipts_of-receipts.ensures c.in-Ok.ensures.told c.in-Ok.ensures.had c.in-Ok.ensures.joined c.in-Ok.ensures.numbered
      c.settle_session.ensures.faithful c.settle_session.ensures.done
      c.settle_session.ensures.disks c.settle_session.ensures.comes;
}
