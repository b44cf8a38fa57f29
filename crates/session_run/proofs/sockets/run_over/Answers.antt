use Rattle.std.proofs.Common.{slice_get}
use Rattle.session_run.proofs.Outcome.{wire-run}
use Rattle.session_run.proofs.sockets.run_over.Goals as goal
use Rattle.volume.specs.Opening.{opening_of}

pub returns-clause-outcome : goal.returns-clause-outcome
returns-clause-outcome g c =
    wire-run c.args.options.now c.run_begun.result
    (opening_of c.in_ok-parts.parts (slice_get c.in_ok-parts.disks.local) (slice_get c.in_ok-parts.disks.peer)) _ _
    c.requires c.in_ok-parts.ensures.opens c.run_begun.ensures.outcome
