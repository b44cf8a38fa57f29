use Rattle.std.proofs.Common.{ℕ, ◌≡◌, ◌-◌, ◌<◌, ◌&&◌, false}
use Rattle.bitmap.specs.Marks.{marked}
use Rattle.resync.specs.Next.{is_free}
use Rattle.resync.proofs.choice.next.Given as goal

abbrev pub invariant-loop-from : goal.invariant-loop-from
invariant-loop-from l = (k : ℕ) → k < l.from → (marked l.marks k && is_free l.held k) ≡ false

abbrev pub decreases-loop-from : goal.decreases-loop-from
decreases-loop-from l = l.blocks - l.from
