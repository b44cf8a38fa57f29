-- `pair_is_joined`: every run of the pair is the runs of two nodes that are joined.
use Rattle.std.proofs.Common.{sym, subst}
use Rattle.model.specs.LocalRuns.{primary_run}
use Rattle.model.specs.Primary.{PrimaryHistory}
use Rattle.model.specs.Secondary.{SecondaryHistory}
use Rattle.model.specs.Pair.{run}
use Rattle.model.specs.Headline.{IsJoined}
use Rattle.model.specs.Theorems.{Opening, primary_at, pair_at, EveryRun, JoinedRuns}
use Rattle.laws.specs.Statements.{EveryRunIsJoined}
use Rattle.laws.proofs.Pair.Runs.{pair_runs_are_joined}

-- every run of the pair leads to two nodes that ran by themselves and are joined
pub every_run_is_joined : EveryRunIsJoined
every_run_is_joined o events =
    let runs = pair_runs_are_joined o events in
    record { here = runs.0; there = runs.1; primary = runs.2; secondary = runs.3; joined = runs.4 }

-- what joined nodes have, every run of the pair has
pub of-joined : (IsSuch : Opening → Type 0) (Holds : PrimaryHistory → SecondaryHistory → Type 0) → JoinedRuns IsSuch Holds → EveryRun IsSuch Holds
of-joined IsSuch Holds joined o events shares such =
    let runs = every_run_is_joined o events in
    let both = subst (λ p. IsJoined p (run events (pair_at o)).1.secondary) runs.primary runs.joined in
    let ends = subst (λ s. IsJoined (primary_run runs.here (primary_at o)) s) runs.secondary both in
    subst (λ p. Holds p (run events (pair_at o)).1.secondary) (sym runs.primary)
    (subst (λ s. Holds (primary_run runs.here (primary_at o)) s) (sym runs.secondary) (joined o runs.here runs.there such ends))
