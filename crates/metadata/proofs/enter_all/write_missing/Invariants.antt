use Rattle.std.proofs.Common.{◌≡◌, ◌≤◌, ◌-◌, ℕ, List, length}
use Rattle.metadata.specs.Calls.{Follows, Leaves}
use Rattle.metadata.specs.Steps.{MayEnter, EntersMissing}
use Rattle.metadata.proofs.enter_all.write_missing.Given as goal

abbrev pub invariant-loop-run : goal.invariant-loop-run
invariant-loop-run g l = record {
  inside : l.done ≤ length l.entries;
  written : 2101248 ≤ length (g.F.StableFile.seen l.fn.file) → EntersMissing l.entries l.done (g.F.StableFile.seen l.fn.file) (g.F.StableFile.seen l.file);
  crash : ((d : List ℕ) → g.F.StableFile.may_leave l.fn.file d → 2101248 ≤ length d)
      → Follows (MayEnter l.entries) (g.F.StableFile.may_leave l.fn.file) (g.F.StableFile.may_leave l.file);
  any_moment : ((d : List ℕ) → g.F.StableFile.may_leave l.fn.file d → 2101248 ≤ length d)
      → Leaves g.F.StableFile.moment g.F.StableFile.left_since g.F.StableFile.may_leave (MayEnter l.entries) l.fn.file l.file;
  still_faithful : g.F.StableFile.faithful l.file ≡ g.F.StableFile.faithful l.fn.file;
  uncounted : g.F.StableFile.faults l.file ≡ g.F.StableFile.faults l.fn.file;
}

abbrev pub decreases-loop-run : goal.decreases-loop-run
decreases-loop-run g l = length l.entries - l.done
