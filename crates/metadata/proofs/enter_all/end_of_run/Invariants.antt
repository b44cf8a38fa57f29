use Rattle.metadata.specs.State.{EachEntered}
use Rattle.metadata.proofs.enter_all.end_of_run.Given as goal

abbrev pub invariant-loop-extent : goal.invariant-loop-extent
invariant-loop-extent l = EachEntered l.entries l.entered l.from l.extent
