use Rattle.bench.proofs.sessions.run.run_over.Given as goal

-- the log that was just made
abbrev pub ghosts-run_named_over-B-LogName : goal.ghosts-run_named_over-B-LogName
ghosts-run_named_over-B-LogName g a = record { name = a.blank.name }
