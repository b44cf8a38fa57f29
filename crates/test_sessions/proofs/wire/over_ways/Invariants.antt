use Rattle.test_sessions.proofs.wire.over_ways.Given as goal

-- the log that was just made
abbrev pub ghosts-named_over_ways-B-LogName : goal.ghosts-named_over_ways-B-LogName
ghosts-named_over_ways-B-LogName g a = record { name = a.blank.name }
