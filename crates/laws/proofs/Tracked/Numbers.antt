-- The journal of a primary has each number once, whatever its disk and its identifiers are.
use Rattle.std.proofs.Common.{ℕ, Bool, List, Ok, Some}
use Rattle.blocks.specs.declared.settings.Settings.{Settings}
use Rattle.blocks.specs.declared.tuple.Tuple.{Tuple}
use Rattle.model.specs.Contents.{BlockMap}
use Rattle.model.specs.Frames.{UuidsFrame}
use Rattle.model.specs.LocalRuns.{PrimaryEvent, primary_run}
use Rattle.model.specs.Primary.{OnDisk, PrimaryHistory, primary_opening, with_primary_connection}
use Rattle.model.specs.PrimarySteps.{follows}
use Rattle.laws.proofs.Primary.Homes.{HasHomes}
use Rattle.laws.proofs.Primary.HomesFollowing.{homes-completions, homes-ending, homes-parting}
use Rattle.laws.proofs.Primary.HomesMoves.{homes-kept, homes-marks, homes-opening}
use Rattle.laws.proofs.Primary.Moves.{IsKeptByMoves, IsKeptByReleases, following-from, kept-by-releases, keeps-run, with_frame}
use Rattle.laws.proofs.Tracked.Kept.{HasNumbers, numbers-completions, numbers-submitted, numbers-outcome, numbers-faulted, numbers-begun}

-- Each write has its home and its number, and the journal each number once.
pub record IsNumbered (h : PrimaryHistory) : Type 0 where
  pub homes : HasHomes h
  pub numbers : HasNumbers h

numbered-following : (h : PrimaryHistory) → IsNumbered h → IsNumbered (follows h).history
numbered-following = following-from IsNumbered IsNumbered IsNumbered
    (λ h known. record { homes = homes-completions h known.homes; numbers = numbers-completions h known.homes known.numbers })
    (λ g over known. record { homes = homes-parting g over known.homes; numbers = known.numbers }) (λ g on known. known)
    (λ g over known. record { homes = homes-ending g over known.homes; numbers = known.numbers }) (λ g known. known)

-- every move of a primary keeps both
numbered-kept : IsKeptByMoves IsNumbered IsNumbered
numbered-kept = record {
  following = numbered-following;
  opens = λ h sync loss closed fresh known. record { homes = homes-kept.opens h sync loss closed fresh known.homes; numbers = known.numbers };
  submits = λ h first contents may known. record {
    homes = homes-kept.submits h first contents may known.homes;
    numbers = numbers-submitted h first contents known.numbers;
  };
  writes = λ h number waiting known. record {
    homes = homes-kept.writes h number waiting known.homes;
    numbers = (numbers-outcome h number OnDisk known.numbers, known.numbers.1);
  };
  faults = λ h number offsets waiting known. record {
    homes = homes-kept.faults h number offsets waiting known.homes;
    numbers = numbers-faulted h number offsets known.numbers;
  };
  sends = λ h standing due known. record { homes = homes-kept.sends h standing due known.homes; numbers = known.numbers };
  greets = λ h frame standing new met known. record { homes = homes-kept.greets h frame standing new met known.homes; numbers = known.numbers };
  begins = λ h peer decided standing new late is fresh known. record {
    homes = homes-kept.begins h peer decided standing new late is fresh known.homes;
    numbers = numbers-begun (record (with_primary_connection (with_frame (Ok (UuidsFrame peer))) h) { peer = Some peer }) decided known.numbers;
  };
  receives = λ h ack standing begun may known. record { homes = homes-kept.receives h ack standing begun may known.homes; numbers = known.numbers };
  applies = λ h ack standing begun may known. record { homes = homes-kept.applies h ack standing begun may known.homes; numbers = known.numbers };
  clears = λ h ack standing begun may known. record { homes = homes-kept.clears h ack standing begun may known.homes; numbers = known.numbers };
  confirms = λ h number size standing begun turn known. record {
    homes = homes-kept.confirms h number size standing begun turn known.homes;
    numbers = known.numbers;
  };
  refuses = λ h frame peer standing known. record { homes = homes-kept.refuses h frame peer standing known.homes; numbers = known.numbers };
  resyncs = λ h block read may runs alone is known. record { homes = homes-kept.resyncs h block read may runs alone is known.homes; numbers = known.numbers };
  closes = λ h standing known. record { homes = homes-kept.closes h standing known.homes; numbers = known.numbers };
  receipts = λ h number known. record { homes = homes-kept.receipts h number known.homes; numbers = known.numbers };
}

-- so do the steps that clear marks
numbered-released : IsKeptByReleases IsNumbered IsNumbered
numbered-released = kept-by-releases IsNumbered IsNumbered (λ h marks known. record { homes = homes-marks h marks known.homes; numbers = known.numbers })

-- In every run of a primary the journal has each number once.
pub numbered-run : (settings : Settings) (disk : BlockMap) (tuple : Tuple) (marks : ℕ → Bool) (events : List PrimaryEvent)
    → IsNumbered (primary_run events (primary_opening settings disk tuple marks))
numbered-run settings disk tuple marks events = keeps-run IsNumbered IsNumbered numbered-kept numbered-released events
    (primary_opening settings disk tuple marks)
    (record { homes = homes-opening settings disk tuple marks; numbers = (λ n entry at. absurd (cc), λ m n a b ata. absurd (cc)) })
