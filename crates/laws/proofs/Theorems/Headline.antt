-- `headline`: what joined nodes have, every run of the pair has.
use Rattle.std.proofs.Common.{sym, subst}
use Rattle.model.specs.Pair.{PairHistory, run}
use Rattle.model.specs.Headline.{TakesABeginning, StaysClosed, StaysClosedToo, HoldsEarlierEpochs, KeepsPromises, MarksDifferences, Headline}
use Rattle.model.specs.Theorems.{pair_at, AnyOpening, HasRanges, IsSoundOpening, EveryRunHasTheHeadline}
use Rattle.laws.specs.Statements.{EveryRunTakesABeginning, EveryRunStaysClosed, EveryRunHoldsEarlierEpochs, EveryRunKeepsPromises, EveryRunMarksDifferences}
use Rattle.laws.proofs.Primary.HomesMoves.{homes-opening}
use Rattle.laws.proofs.Secondary.Runs.{holds_earlier_epochs}
use Rattle.laws.proofs.Joining.Promises.{keeps_promises}
use Rattle.laws.proofs.Primary.StaysClosed.{primary_stays_closed}
use Rattle.laws.proofs.Secondary.Stays.{secondary_stays_closed}
use Rattle.laws.proofs.Pair.Runs.{leads-run}
use Rattle.laws.proofs.Theorems.JoinedHeadline.{joined-beginning, joined-marks, joined_headline}
use Rattle.laws.proofs.Theorems.PairIsJoined.{of-joined}

-- in every run of the pair the secondary takes a beginning of what was sent
pub every_beginning : EveryRunTakesABeginning
every_beginning = of-joined HasRanges TakesABeginning joined-beginning

-- in every run of the pair the disk holds the earlier epochs
pub every_epochs : EveryRunHoldsEarlierEpochs
every_epochs = of-joined AnyOpening (λ p s. HoldsEarlierEpochs s) (λ o here there such joined. holds_earlier_epochs o there)

-- in every run of the pair completions keep their promises
pub every_promises : EveryRunKeepsPromises
every_promises = of-joined AnyOpening KeepsPromises keeps_promises

-- in every run of the pair the marks have the differences at rest
pub every_marks : EveryRunMarksDifferences
every_marks = of-joined IsSoundOpening MarksDifferences joined-marks

-- every run of the pair has the whole headline
pub every_headline : EveryRunHasTheHeadline
every_headline = of-joined IsSoundOpening Headline joined_headline

-- in every run of the pair closed ends stay as they are
pub every_close : EveryRunStaysClosed
every_close o events more =
    let first = leads-run events (pair_at o) (record { homes = homes-opening o.settings o.local o.own o.marks; pairs = tt; counted = λ j d at. absurd (cc) }) in
    let mid : PairHistory = (run events (pair_at o)).1 in
    let second = (leads-run more mid first.1).0 in (
      subst (λ p. StaysClosed mid.primary p) (sym second.primary) (primary_stays_closed second.here mid.primary),
      subst (λ s. StaysClosedToo mid.secondary s) (sym second.secondary) (secondary_stays_closed second.there mid.secondary),
    )
