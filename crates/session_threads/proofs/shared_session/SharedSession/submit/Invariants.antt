use Rattle.std.specs.Prelude.{◌≡◌}
use Rattle.session_threads.proofs.shared_session.SharedSession.submit.Given as goal

-- a refusal after which it is tried again told nothing
abbrev pub invariant-loop : goal.invariant-loop
invariant-loop g l = record { untold : l.me ≡ l.fn.me }
