use Rattle.std.specs.Prelude.{slice_get}
use Rattle.volume.specs.Opening.{opening_of}
use Rattle.test_sessions.proofs.session.run.Given as goal

-- the link whose two directions were just made, the opening that these parts and disks are, and the log that was just made
abbrev pub ghosts-run_named : goal.ghosts-run_named
ghosts-run_named g a = record {
  link = record { there = a.there.0.row; back = a.back.0.row };
  opening = opening_of a.parts (slice_get (g.S.Store.contents a.disks.0)) (slice_get (g.T.Store.contents a.disks.1));
  log = a.blank.name;
}
