use Rattle.test_serving.proofs.flushes.a_request_with_fua_takes_no_earlier_round.Given as goal

-- the log that was just made
abbrev pub ghosts-later_round_is_taken : goal.ghosts-later_round_is_taken
ghosts-later_round_is_taken g a = record { name = a.blank.name }
