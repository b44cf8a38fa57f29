use Rattle.test_serving.proofs.flushes.asked_for.Given as goal

-- the log that was just made
abbrev pub ghosts-asked_for_under : goal.ghosts-asked_for_under
ghosts-asked_for_under g a = record { name = a.blank.name }
