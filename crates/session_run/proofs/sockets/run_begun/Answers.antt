use Rattle.std.proofs.Common.{rules, slice_get, subst}
use Rattle.told_nodes.specs.Told.{IsTold}
use Rattle.session_nodes.specs.Secondaries.{SecondaryIsHad}
use Rattle.session_run.proofs.Outcome.{outcome-of}
use Rattle.told_nodes.proofs.Ran.{ran}
use Rattle.session_run.proofs.sockets.run_begun.Goals as goal
use Rattle.volume.specs.Opening.{opening_of}

pub returns-in-Ok-finish-clause-outcome : goal.returns-in-Ok-finish-clause-outcome
returns-in-Ok-finish-clause-outcome g c =
    let o = opening_of c.args.parts (slice_get c.args.disks.local) (slice_get c.args.disks.peer) in
    outcome-of c.args.options.now o c.conclude.result c.gather-receipts.result c.in-Ok-finish.log.log c.in-Ok-finish.primary c.in-Ok-finish.secondary
    c.requires.honest c.requires.unparted c.conclude.ensures.done c.gather-receipts.ensures.plan c.conclude.ensures.count c.conclude.ensures.confirmed
    c.conclude.ensures.unmarked c.conclude.ensures.rest c.conclude.ensures.settles c.conclude.ensures.disks
    (ran o c.in-Ok-finish.log.log c.in-Ok-finish.primary
    (subst (λ known. IsTold known c.in-Ok-finish.log.log c.in-Ok-finish.primary) c.requires.opening c.in-Ok-finish.ensures.told))
    (subst (λ known. SecondaryIsHad known c.in-Ok-finish.secondary) c.requires.opening c.in-Ok-finish.ensures.had.1) c.in-Ok-finish.ensures.numbered

pub work_over-worked-requires-send-F : goal.work_over-worked-requires-send-F
work_over-worked-requires-send-F g c κs within = search rules

pub work_over-worked-requires-send-G : goal.work_over-worked-requires-send-G
work_over-worked-requires-send-G g c κs within = search rules
