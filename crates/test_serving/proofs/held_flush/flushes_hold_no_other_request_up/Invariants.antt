use Rattle.test_serving.proofs.held_flush.flushes_hold_no_other_request_up.Given as goal

-- the log that was just made
abbrev pub ghosts-serve_device : goal.ghosts-serve_device
ghosts-serve_device g a = record { name = a.blank.name }
