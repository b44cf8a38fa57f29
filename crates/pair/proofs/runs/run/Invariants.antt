use Rattle.std.specs.Vec.{vec_capacity, vec_len}
use Rattle.pair.specs.Running.{HasRun}
use Rattle.pair.proofs.runs.run.Given as goal

abbrev pub invariant-loop-event : goal.invariant-loop-event
invariant-loop-event l = HasRun l.events l.event-index l.replies.items (vec_len l.replies) (vec_capacity l.replies) l.fn.pair l.pair
