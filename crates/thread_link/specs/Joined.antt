-- The two ends of one direction, together.
use Rattle.std.specs.Prelude.{ℕ, ◌≡◌, List, ◌++◌}
use Rattle.link.specs.Past.{Past}
use Rattle.thread_link.specs.Carried.{frames_on}
use Rattle.thread_link.specs.Inward.{InwardState}
use Rattle.thread_link.specs.Outward.{OutwardState}

-- the present connection of an end, as those that are over
abbrev pub at_present : ℕ → List (List ℕ) → Past
at_present number frames = record { number = number; frames = frames }

-- the frames sent on the connection of this number
abbrev pub sent_on : ℕ → OutwardState → List (List ℕ)
sent_on number s = frames_on number (at_present s.number s.sent) s.past

-- the frames taken on the connection of this number
abbrev pub taken_on : ℕ → InwardState → List (List ℕ)
taken_on number s = frames_on number (at_present s.number s.taken) s.past

-- on each connection the frames taken are a beginning of the frames sent; none were taken if none were sent
abbrev pub IsJoined : OutwardState → InwardState → Type 0
IsJoined outward inward = (number : ℕ) → (rest : List (List ℕ)) × (taken_on number inward ++ rest ≡ sent_on number outward)
