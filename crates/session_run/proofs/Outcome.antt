-- What a settlement says of the numbers of its outcome.
use Rattle.std.proofs.Common.{ℕ, ◌≡◌, ◌≤◌, ◌∙◌, Bool, true, false, List, Option, Some, None, Result, Ok, Err, slice_get, ap, subst, arith}
use Rattle.std.proofs.Common.{Vec, Global, sym}
use Rattle.std.specs.Prelude.{vec_len, IfOk, IsOk, IsTrue}
use Rattle.blocks.specs.declared.refusal.Refusal.{Refusal}
use Rattle.blocks.specs.SettingsRange.{standard}
use Rattle.blocks.specs.declared.tuple.Tuple.{Tuple}
use Rattle.laws.proofs.Joining.Openings.{kept-opening-primary}
use Rattle.model.specs.Headline.{IsJoined}
use Rattle.model.specs.LocalRuns.{primary_run, secondary_run}
use Rattle.model.specs.Primary.{PrimaryHistory}
use Rattle.model.specs.Refusals.{first_refusal}
use Rattle.model.specs.Secondary.{SecondaryHistory}
use Rattle.model.specs.Settlement.{Receipt, Settlement, settle, settle_tests, settlement}
use Rattle.model.specs.Theorems.{Opening, Settles, primary_at, secondary_at}
use Rattle.program_values.specs.declared.run_options.Path.TheVariants.{Link, Sockets}
use Rattle.program_values.specs.declared.run_options.RunOptions.{RunOptions}
use Rattle.primary.specs.State.{PrimaryView}
use Rattle.session_run.specs.Plan.{AreOfPlan}
use Rattle.told.specs.Log.{SaysAccepted}
use Rattle.session_run.proofs.Plan.{plan-means}
use Rattle.secondary.specs.State.{SecondaryView}
use Rattle.session_nodes.specs.Primaries.{PrimaryHas}
use Rattle.session_nodes.specs.Secondaries.{SecondaryHas, SecondaryIsHad}
use Rattle.session_run.specs.Outcome.{AreAtRest, HasSettled, IsLinked, IsNumber, IsOpening, IsOutcome, IsRun}
use Rattle.session_run.specs.declared.report.RunReport.{RunReport}
use Rattle.settlement.proofs.Openings.{were-honest}
use Rattle.settlement.proofs.Settling.{keeps-order}
use Rattle.settlement.specs.Settled.{WasHonest}
use Rattle.told.specs.declared.entry.Told.{Told}
use Rattle.told.specs.Stands.{IsWritten}
use Rattle.told_nodes.proofs.Ran.{Ran}

-- where nodes settle, it is to these numbers
pub settled-numbers : (p : PrimaryHistory) (s : SecondaryHistory) (receipts : List Receipt) (faulty : Bool) (numbers : Settlement)
    → Ok numbers ≡ settle p s receipts faulty → numbers ≡ settlement p s receipts
settled-numbers p s receipts faulty numbers = by (first_refusal (settle_tests p s receipts faulty))
  where
    by : (v : Option Refusal) → Ok numbers ≡ (elim v as (λ _. Result Settlement Refusal) [ Some refusal ↦ Err refusal | None ↦ Ok (settlement p s receipts) ])
        → numbers ≡ settlement p s receipts
    by None is = cc
    by (Some refusal) is = absurd (cc)

-- what a session's nodes, once they are settled, make of its report
pub outcome-of : (options : RunOptions) (o : Opening) (result : Result RunReport Refusal) (worked : Result (Vec Receipt Global) Refusal)
    (log : List Told) (a : PrimaryView) (b : SecondaryView) → WasHonest o → o.own.bitmap ≡ 0 → IfOk result (λ _. IsOk worked)
    → IfOk worked (λ receipts. AreOfPlan (SaysAccepted log) options receipts.items)
    → IfOk result (λ report. IfOk worked (λ receipts. report.completed ≡ vec_len receipts))
    → IfOk result (λ report. IfOk worked (λ receipts. IsNumber (λ n. n.confirmed) a b receipts.items report.confirmed))
    → IfOk result (λ report. IfOk worked (λ receipts. IsNumber (λ n. n.unmarked) a b receipts.items report.unmarked))
    → IfOk result (λ report. IfOk worked (λ receipts. AreAtRest a b receipts.items))
    → IfOk result (λ report. IfOk worked (λ receipts. b.core.number ≤ a.core.connections → HasSettled a b receipts.items report.confirmed report.unmarked))
    → IfOk result (λ report. (report.disks.local ≡ a.disk) × (report.disks.peer ≡ b.disk) × IsTrue a.faithful)
    → Ran o log a → SecondaryIsHad (Some o) b → b.core.number ≤ a.core.connections → IfOk result (IsOutcome options o)
outcome-of options o (Err refusal) worked log a b honest unparted done planned count confirmed unmarked rest settles disks p s numbered = tt
outcome-of options o (Ok report) (Err refusal) log a b honest unparted done planned count confirmed unmarked rest settles disks p s numbered =
    absurd (let wrong : false ≡ true = done in cc (wrong))
outcome-of options o (Ok report) (Ok receipts) log a b honest unparted done planned count confirmed unmarked rest settles disks p s numbered =
    let here = p.has in
    let there : SecondaryHas b (secondary_run s.began.0 (secondary_at o)) = subst (SecondaryHas b) s.began.1 s.has in
    let were = were-honest o p.events s.began.0 honest in
    record {
      here = p.events;
      there = s.began.0;
      receipts = receipts.items;
      planned = plan-means (SaysAccepted log) (IsWritten (primary_run p.events (primary_at o))) p.stands.writes options receipts.items planned;
      completed = omega (arith, count, receipts.ok);
      confirmed = confirmed (primary_run p.events (primary_at o)) (secondary_run s.began.0 (secondary_at o)) here.has there.has;
      unmarked = unmarked (primary_run p.events (primary_at o)) (secondary_run s.began.0 (secondary_at o)) here.has there.has;
      rest = (rest (primary_run p.events (primary_at o)) (secondary_run s.began.0 (secondary_at o)) here.has there.has).0;
      entries = (rest (primary_run p.events (primary_at o)) (secondary_run s.began.0 (secondary_at o)) here.has there.has).1;
      settles = λ joined.
          let settled = settles numbered (primary_run p.events (primary_at o)) (secondary_run s.began.0 (secondary_at o)) here.has there.has joined were in
          subst (Settles (primary_run p.events (primary_at o)) (secondary_run s.began.0 (secondary_at o)) receipts.items) settled.1.0.exact settled.1.0;
      order = λ joined none. keeps-order _ _ here.has.reached there.has.reached were joined (record {
        faithful = here.has.leaves.faithful disks.2;
        local = none;
        opening = λ same. ap (λ (t : Tuple). t.bitmap) (kept-opening-primary o p.events).tuple ∙ unparted;
      });
      local = λ block. ap (λ (l : List (List ℕ)). slice_get l block) disks.0 ∙ here.has.leaves.disk block;
      peer = λ block. ap (λ (l : List (List ℕ)). slice_get l block) disks.1 ∙ there.has.leaves.disk block;
    }

-- the same of nodes whose histories are joined
pub linked-of : (options : RunOptions) (o : Opening) (result : Result RunReport Refusal) (worked : Result (Vec Receipt Global) Refusal)
    (log : List Told) (a : PrimaryView) (b : SecondaryView) → WasHonest o → o.own.bitmap ≡ 0 → IfOk result (λ _. IsOk worked)
    → IfOk worked (λ receipts. AreOfPlan (SaysAccepted log) options receipts.items)
    → IfOk result (λ report. IfOk worked (λ receipts. report.completed ≡ vec_len receipts))
    → IfOk result (λ report. IfOk worked (λ receipts. IsNumber (λ n. n.confirmed) a b receipts.items report.confirmed))
    → IfOk result (λ report. IfOk worked (λ receipts. IsNumber (λ n. n.unmarked) a b receipts.items report.unmarked))
    → IfOk result (λ report. IfOk worked (λ receipts. AreAtRest a b receipts.items))
    → IfOk result (λ report. IfOk worked (λ receipts. b.core.number ≤ a.core.connections → HasSettled a b receipts.items report.confirmed report.unmarked))
    → IfOk result (λ report. (report.disks.local ≡ a.disk) × (report.disks.peer ≡ b.disk) × IsTrue a.faithful)
    → Ran o log a → SecondaryIsHad (Some o) b → b.core.number ≤ a.core.connections
    → ((p : PrimaryHistory) (s : SecondaryHistory) → PrimaryHas a p → SecondaryHas b s → IsJoined p s) → IfOk result (IsLinked options o)
unfolding outcome-of
linked-of options o (Err refusal) worked log a b honest unparted done planned count confirmed unmarked rest settles disks p s numbered joined = tt
linked-of options o (Ok report) (Err refusal) log a b honest unparted done planned count confirmed unmarked rest settles disks p s numbered joined =
    absurd (let wrong : false ≡ true = done in cc (wrong))
linked-of options o (Ok report) (Ok receipts) log a b honest unparted done planned count confirmed unmarked rest settles disks p s numbered joined = record {
  outcome = outcome-of options o (Ok report) (Ok receipts) log a b honest unparted done planned count confirmed unmarked rest settles disks p s numbered;
  joined = joined _ _ p.has (subst (SecondaryHas b) s.began.1 s.has);
}

-- a report of joined runs from an opening is one of the options and images that the opening is made of
pub linked-run : (options : RunOptions) (result : Result RunReport Refusal) (o : Opening) (local peer : List ℕ)
    → IsOpening (record standard { protocol = options.protocol; blocks = options.blocks }) local peer o → IfOk result (IsLinked options o)
    → IfOk result (IsRun options local peer)
linked-run options (Err refusal) o local peer is linked = tt
linked-run options (Ok report) o local peer is linked = record { opening = o; opens = is; outcome = linked.outcome; joined = λ _. linked.joined }

-- so is one over streams
pub wire-run : (options : RunOptions) (result : Result RunReport Refusal) (o : Opening) (local peer : List ℕ) → options.path ≡ Sockets
    → IsOpening (record standard { protocol = options.protocol; blocks = options.blocks }) local peer o → IfOk result (IsOutcome options o)
    → IfOk result (IsRun options local peer)
wire-run options (Err refusal) o local peer wire is outcome = tt
wire-run options (Ok report) o local peer wire is outcome = record {
  opening = o;
  opens = is;
  outcome = outcome;
  joined = λ link. absurd (let wrong : Sockets ≡ Link = sym wire ∙ link in cc (wrong));
}
