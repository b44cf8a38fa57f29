-- All that a primary's callers were told, in the history to which its events led from a known opening.
use Rattle.std.proofs.Common.{ℕ, ◌≡◌, List, ◌++◌, Some, ◌∙◌, sym, ap, subst}
use Rattle.model.specs.LocalRuns.{PrimaryEvent, primary_run}
use Rattle.model.specs.Primary.{PrimaryHistory}
use Rattle.model.specs.Theorems.{Opening, primary_at}
use Rattle.primary.specs.State.{PrimaryView}
use Rattle.session_nodes.specs.Primaries.{PrimaryHas}
use Rattle.told.specs.declared.entry.Told.{Told}
use Rattle.told.specs.Stands.{AllReadOwn, Stands}
use Rattle.told.proofs.Telling.{run-both}
use Rattle.told_nodes.specs.Told.{IsTold}
use Rattle.told_nodes.proofs.Going.{stand-all}

-- The events that led it to where its callers were told the first thing, and all that led it from the opening to where it is.
pub record Ran (o : Opening) (log : List Told) (v : PrimaryView) : Type 0 where
  pub first : List PrimaryEvent
  pub events : List PrimaryEvent
  pub has : PrimaryHas v (primary_run events (primary_at o))
  pub stands : Stands v.faithful (primary_run first (primary_at o)) log (primary_run events (primary_at o))
  pub own : AllReadOwn v.faithful (primary_run first (primary_at o)) log (primary_run events (primary_at o))

pub ran : (o : Opening) (log : List Told) (v : PrimaryView) → IsTold (Some o) log v → Ran o log v
ran o log v told =
    let all = stand-all (Some o) log v told in
    let led = all.stands.leads in
    let is : all.history ≡ primary_run (all.began.0 ++ led.0) (primary_at o)
    = led.1 ∙ (ap (primary_run led.0) all.began.1 ∙ run-both all.began.0 led.0 (primary_at o)) in
    record {
      first = all.began.0;
      events = all.began.0 ++ led.0;
      has = subst (PrimaryHas v) is all.has;
      stands = subst (λ (h : PrimaryHistory). Stands v.faithful (primary_run all.began.0 (primary_at o)) log h) is
          (subst (λ (start : PrimaryHistory). Stands v.faithful start log all.history) all.began.1 all.stands);
      own = subst (λ (h : PrimaryHistory). AllReadOwn v.faithful (primary_run all.began.0 (primary_at o)) log h) is
          (subst (λ (start : PrimaryHistory). AllReadOwn v.faithful start log all.history) all.began.1 all.own);
    }
