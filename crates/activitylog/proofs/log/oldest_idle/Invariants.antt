use Rattle.std.proofs.Common.{◌≡◌}
use Rattle.std.specs.Prelude.{None, fold, map}
use Rattle.std.specs.Map.Iter.{deref_pair}
use Rattle.activitylog.proofs.Entries.{later_idle}
use Rattle.activitylog.proofs.log.oldest_idle.Given as goal

abbrev pub invariant-loop-extent : goal.invariant-loop-extent
invariant-loop-extent l = l.idle ≡ fold later_idle None (map deref_pair l.yielded)
