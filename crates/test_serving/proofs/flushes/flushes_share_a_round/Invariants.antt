use Rattle.test_serving.proofs.flushes.flushes_share_a_round.Given as goal

-- the log that was just made
abbrev pub ghosts-round_is_shared : goal.ghosts-round_is_shared
ghosts-round_is_shared g a = record { name = a.blank.name }
