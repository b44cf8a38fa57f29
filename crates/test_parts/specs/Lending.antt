-- What was taken out of a queue.
use Rattle.std.specs.Prelude.{ℕ, List, [], Option, Some, None}
use Rattle.link.specs.Directions.{QueueState}

-- what was taken out of the queue that rests at an end
abbrev pub taken_in : Option QueueState → List (List ℕ)
taken_in None = []
taken_in (Some queue) = queue.taken
