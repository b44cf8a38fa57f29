use Rattle.std.specs.Prelude.{slice_get}
use Rattle.session_run.proofs.session.run_session.Given as goal
use Rattle.volume.specs.Opening.{opening_of}

-- the link whose two rows were just made, the opening that these parts and disks are, and the log that was just made
abbrev pub ghosts-run_named : goal.ghosts-run_named
ghosts-run_named g a = record {
  link = record { there = a.there.0.row; back = a.back.0.row };
  opening = opening_of a.parts (slice_get a.disks.local) (slice_get a.disks.peer);
  log = a.blank.name;
}
