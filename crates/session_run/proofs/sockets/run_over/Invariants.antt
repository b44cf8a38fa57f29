use Rattle.std.specs.Prelude.{Some, slice_get}
use Rattle.session_run.proofs.sockets.run_over.Given as goal
use Rattle.volume.specs.Opening.{opening_of}

-- the opening that these parts and disks are
abbrev pub ghosts-run_begun-B-Beginning : goal.ghosts-run_begun-B-Beginning
ghosts-run_begun-B-Beginning g a = record { opening = Some (opening_of a.parts (slice_get a.disks.local) (slice_get a.disks.peer)) }

-- the log that was just made
abbrev pub ghosts-run_begun-B-LogName : goal.ghosts-run_begun-B-LogName
ghosts-run_begun-B-LogName g a = record { name = a.blank.name }
