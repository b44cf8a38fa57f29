use Rattle.std.proofs.Common.{slice_get}
use Rattle.session_run.proofs.Outcome.{linked-run}
use Rattle.session_run.proofs.session.run_session.Goals as goal
use Rattle.volume.specs.Opening.{opening_of}

pub returns-clause-outcome : goal.returns-clause-outcome
returns-clause-outcome g c =
    linked-run c.args.options.now c.run_named.result
    (opening_of c.in_ok-parts.parts (slice_get c.in_ok-parts.disks.local) (slice_get c.in_ok-parts.disks.peer)) _ _
    c.in_ok-parts.ensures.opens
    c.run_named.ensures.outcome
