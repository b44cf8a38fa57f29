-- The laws of the moments of a record of calls.
use Rattle.std.specs.Prelude.{ℕ, ◌≤◌, List, [], ◌∷◌, length}
use Rattle.std.proofs.Common.{inl, ⊎_elim, arith}
use Rattle.metadata.specs.Events.{Event, replay, may_leave_of, LeftSince}

pub counts_now : (opening : List ℕ) (events : List Event) (t : ℕ) (c : List ℕ) → t ≤ length events → may_leave_of (replay opening events) c → LeftSince opening events t c
counts_now opening [] t c le now = now
counts_now opening (e ∷ earlier) t c le now = inl now

pub only_now : (opening : List ℕ) (events : List Event) (c : List ℕ) → LeftSince opening events (length events) c → may_leave_of (replay opening events) c
only_now opening [] c left = left
only_now opening (e ∷ earlier) c left = ⊎_elim (λ now. now) (λ past. absurd (omega (arith, past.0))) left
