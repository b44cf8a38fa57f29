use Rattle.std.proofs.Common.{rules}
use Rattle.session_run.proofs.Outcome.{linked-of}
use Rattle.told_nodes.proofs.Ran.{ran}
use Rattle.session_run.proofs.session.run_named.Goals as goal

pub returns-in-Ok-finish-clause-outcome : goal.returns-in-Ok-finish-clause-outcome
returns-in-Ok-finish-clause-outcome g c =
    linked-of c.args.options.now g.L.Linked.opening c.conclude.result c.gather-receipts.result c.in-Ok-finish.log.log c.in-Ok-finish.primary c.in-Ok-finish.secondary
    c.requires.honest c.requires.unparted c.conclude.ensures.done c.gather-receipts.ensures.plan c.conclude.ensures.count c.conclude.ensures.confirmed
    c.conclude.ensures.unmarked c.conclude.ensures.rest c.conclude.ensures.settles c.conclude.ensures.disks
    (ran g.L.Linked.opening c.in-Ok-finish.log.log c.in-Ok-finish.primary c.in-Ok-finish.ensures.told) c.in-Ok-finish.ensures.had.1
    c.in-Ok-finish.ensures.numbered c.in-Ok-finish.ensures.joined

pub work_over-worked-requires-send-F : goal.work_over-worked-requires-send-F
work_over-worked-requires-send-F g c κs within = search rules

pub work_over-worked-requires-send-G : goal.work_over-worked-requires-send-G
work_over-worked-requires-send-G g c κs within = search rules
