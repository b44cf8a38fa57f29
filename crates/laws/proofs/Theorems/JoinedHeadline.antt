-- The headline and the cover of two nodes that ran by themselves and are joined.
use Rattle.std.proofs.Common.{◌≤◌, inl, inr, length, sym, subst}
use Rattle.std.proofs.lemmas.Bool.{cases_Bool, both_ways}
use Rattle.blocks.specs.declared.settings.Settings.{Settings}
use Rattle.model.specs.Stream.{IsLawful}
use Rattle.model.specs.LocalRuns.{primary_run, secondary_run}
use Rattle.model.specs.Primary.{PrimaryHistory, local_map, active_extents}
use Rattle.model.specs.Secondary.{SecondaryHistory, secondary_map}
use Rattle.model.specs.Pair.{same_block}
use Rattle.model.specs.Headline.{TakesABeginning, MarksDifferences, is_covered}
use Rattle.model.specs.Theorems.{primary_at, secondary_at, HasRanges, IsSoundOpening, JoinedRuns, JoinedRunsHaveTheHeadline, JoinedRunsCoverDifferences}
use Rattle.laws.proofs.Rules.EpochEnds.{most_writes}
use Rattle.laws.proofs.Secondary.Runs.{holds_earlier_epochs}
use Rattle.laws.proofs.Joining.Promises.{keeps_promises}
use Rattle.laws.proofs.Theorems.PrimaryAlone.{writes_once, streams_are_lawful, extents_are_few}
use Rattle.laws.proofs.Joining.Openings.{kept-opening-primary}
use Rattle.laws.proofs.Joining.Agreeing.{joined-agrees}
use Rattle.laws.proofs.Joining.Taking.{takes_a_beginning}
use Rattle.laws.proofs.Theorems.PrimaryReflects.{reflects, marks_at_rest}

-- what the secondary took begins a lawful stream, each write once
pub joined-beginning : JoinedRuns HasRanges TakesABeginning
joined-beginning o here there ranges joined =
    let p : PrimaryHistory = primary_run here (primary_at o) in
    let s : SecondaryHistory = secondary_run there (secondary_at o) in
    record {
      taken = takes_a_beginning p s joined;
      lawful = λ k c at. subst (λ (x : Settings). IsLawful (most_writes x) c.stream) (sym (kept-opening-primary o here).settings)
          (streams_are_lawful o here ranges k c at);
      once = writes_once o here;
    }

-- where the two are joined, a block on which the disks differ is marked or under an unreleased write
pub joined_covers : JoinedRunsCoverDifferences
joined_covers o here there sound joined =
    let p : PrimaryHistory = primary_run here (primary_at o) in
    let s : SecondaryHistory = secondary_run there (secondary_at o) in
    record {
      covered = λ grounded block differs. elim (cases_Bool (is_covered p block)) [
        | inl is ↦ is
        | inr clean ↦ absurd (both_ways (same_block (local_map p block) (secondary_map s block)) differs
            (joined-agrees o here there sound joined grounded block (reflects o here sound.ranges sound.local grounded.0 block clean)))
      ];
      active = subst (λ (x : Settings). length (active_extents p) ≤ x.slots) (sym (kept-opening-primary o here).settings) (extents_are_few o here);
    }

-- while no stream stands, such a block is marked
pub joined-marks : JoinedRuns IsSoundOpening MarksDifferences
joined-marks o here there sound joined grounded resting block differs = marks_at_rest o here sound.ranges sound.local resting block
    ((joined_covers o here there sound joined).covered grounded block differs)

-- where the two are joined, the whole headline holds
pub joined_headline : JoinedRunsHaveTheHeadline
joined_headline o here there sound joined = record {
  beginning = joined-beginning o here there sound.ranges joined;
  epochs = holds_earlier_epochs o there;
  promises = keeps_promises o here there tt joined;
  marks = joined-marks o here there sound joined;
}
