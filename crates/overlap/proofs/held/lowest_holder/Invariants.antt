use Rattle.std.proofs.Common.{◌≡◌, length}
use Rattle.std.specs.Prelude.{fold}
use Rattle.overlap.specs.Maps.{AreApart, lowest_of, lowest_with}
use Rattle.overlap.proofs.held.lowest_holder.Given as goal

-- what is left to look at leads from what was found to the answer
abbrev pub invariant-loop-start : goal.invariant-loop-start
invariant-loop-start l = AreApart l.holdings × (fold (lowest_with l.first) l.lowest l.holdings ≡ lowest_of l.first l.initial.holdings)

abbrev pub decreases-loop-start : goal.decreases-loop-start
decreases-loop-start l = length l.holdings
