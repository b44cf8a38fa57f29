-- The theorems over the definitions, as statements for every list of events. Their proofs are elsewhere.
use Rattle.std.specs.Prelude.{ℕ, ◌≡◌, ◌≤◌, nat_lt, Bool, ◌&&◌, List, Some, slice_get, Ok}
use Rattle.blocks.specs.declared.settings.Settings.{Settings}
use Rattle.blocks.specs.declared.tuple.Tuple.{Tuple}
use Rattle.blocks.specs.SettingsRange.{IsInRange}
use Rattle.model.specs.Contents.{BlockMap, IsDisk}
use Rattle.model.specs.Primary.{Completion, PrimaryHistory, primary_opening}
use Rattle.model.specs.Secondary.{SecondaryHistory, secondary_opening}
use Rattle.model.specs.Pair.{Event, PairHistory, run}
use Rattle.model.specs.LocalRuns.{PrimaryEvent, primary_run, SecondaryEvent, secondary_run}
use Rattle.model.specs.Headline.{IsJoined, IsGrounded, TakesABeginning, HoldsEarlierEpochs, KeepsPromises, Headline, CoversDifferences, IsHonest}
use Rattle.model.specs.Settlement.{Receipt, receipt_of, Settlement, settlement, settle}
use Rattle.model.specs.WriteOrder.{KeepsWriteOrder, IsUnharmed}

-- What two nodes start from: the settings of each, both disks, both tuples, and the marks.
pub record Opening : Type 0 where
  pub settings : Settings
  pub peer_settings : Settings
  pub local : BlockMap
  pub peer : BlockMap
  pub own : Tuple
  pub peer_tuple : Tuple
  pub marks : ℕ → Bool

-- the primary at an opening
abbrev pub primary_at : Opening → PrimaryHistory
primary_at o = primary_opening o.settings o.local o.own o.marks

-- the secondary at an opening
abbrev pub secondary_at : Opening → SecondaryHistory
secondary_at o = secondary_opening o.peer_settings o.peer o.peer_tuple

-- both nodes at an opening
abbrev pub pair_at : Opening → PairHistory
pair_at o = record { primary = primary_at o; secondary = secondary_at o }

-- The premises of an opening.

-- both nodes have the same settings, as those of a pair have
abbrev pub SharesSettings : Opening → Type 0
SharesSettings o = o.peer_settings ≡ o.settings

-- no premise
abbrev pub AnyOpening : Opening → Type 0
AnyOpening o = Unit {0}

-- the settings of both are in their ranges
pub record HasRanges (o : Opening) : Type 0 where
  pub here : IsInRange o.settings
  pub there : IsInRange o.peer_settings

-- the opening marks of the primary's device: past its end none counts
abbrev pub marks_at : Opening → ℕ → Bool
marks_at o block = nat_lt block o.settings.blocks && o.marks block

-- both disks have as many blocks as their node's settings say, and the identifiers are honest, beside the ranges
pub record IsSoundOpening (o : Opening) : Type 0 where
  pub ranges : HasRanges o
  pub local : IsDisk o.settings.blocks o.local
  pub peer : IsDisk o.peer_settings.blocks o.peer
  pub identifiers : IsHonest o.own o.peer_tuple (marks_at o) o.local o.peer

-- Every list of events leads the pair from such an opening to a history with this property, whichever events are out of
-- memory.
abbrev pub EveryRun : (Opening → Type 0) → (PrimaryHistory → SecondaryHistory → Type 0) → Type 0
EveryRun IsSuch Holds =
    (o : Opening) (events : List (Event × Bool)) → SharesSettings o → IsSuch o → Holds (run events (pair_at o)).1.primary (run events (pair_at o)).1.secondary

-- Two nodes that each ran by themselves from such an opening, with any frames, and whose frames are joined have this
-- property. It assumes no order between the steps of one node and those of the other.
abbrev pub JoinedRuns : (Opening → Type 0) → (PrimaryHistory → SecondaryHistory → Type 0) → Type 0
JoinedRuns IsSuch Holds =
    (o : Opening) (here : List PrimaryEvent) (there : List SecondaryEvent) → IsSuch o
    → IsJoined (primary_run here (primary_at o)) (secondary_run there (secondary_at o))
    → Holds (primary_run here (primary_at o)) (secondary_run there (secondary_at o))

-- Every run of the pair has the headline.
abbrev pub EveryRunHasTheHeadline : Type 0
EveryRunHasTheHeadline = EveryRun IsSoundOpening Headline

-- every run of the pair covers the differences
abbrev pub EveryRunCoversDifferences : Type 0
EveryRunCoversDifferences = EveryRun IsSoundOpening CoversDifferences

-- every run of the pair keeps the write order, if nothing failed
abbrev pub EveryRunKeepsWriteOrder : Type 0
EveryRunKeepsWriteOrder = EveryRun IsSoundOpening (λ p s. IsUnharmed p s → KeepsWriteOrder p s)

-- The joining lemma: joined nodes have the headline.
abbrev pub JoinedRunsHaveTheHeadline : Type 0
JoinedRunsHaveTheHeadline = JoinedRuns IsSoundOpening Headline

-- joined nodes cover the differences
abbrev pub JoinedRunsCoverDifferences : Type 0
JoinedRunsCoverDifferences = JoinedRuns IsSoundOpening CoversDifferences

-- joined nodes keep the write order, if nothing failed
abbrev pub JoinedRunsKeepWriteOrder : Type 0
JoinedRunsKeepWriteOrder = JoinedRuns IsSoundOpening (λ p s. IsUnharmed p s → KeepsWriteOrder p s)

-- What a settlement says of two joined nodes: the headline; no more items taken than sent; in a grounded history no
-- unmarked block on which the disks differ; each confirmed receipt is that of an entry of the journal, and none is
-- given twice; and the journal has each number once.
pub record Settles (p : PrimaryHistory) (s : SecondaryHistory) (receipts : List Receipt) (numbers : Settlement) : Type 0 where
  pub headline : Headline p s
  pub exact : numbers ≡ settlement p s receipts
  pub taken : numbers.taken ≤ numbers.sent
  pub unmarked : IsGrounded p s → numbers.unmarked ≡ 0
  pub confirmed : (i : ℕ) (receipt : Receipt) → slice_get receipts i ≡ Some receipt
      → (n : ℕ) × (entry : Completion) × (slice_get p.journal n ≡ Some entry) × (receipt ≡ receipt_of entry)
  pub once : (i j : ℕ) (receipt : Receipt) → slice_get receipts i ≡ Some receipt → slice_get receipts j ≡ Some receipt → i ≡ j
  pub distinct : (m n : ℕ) (a b : Completion) → slice_get p.journal m ≡ Some a → slice_get p.journal n ≡ Some b → a.write.number ≡ b.write.number → m ≡ n

-- What a settlement says of two joined nodes whatever their identifiers say: all but the fourth clause and the absence
-- of unmarked differing blocks.
pub record SettlesAnyhow (p : PrimaryHistory) (s : SecondaryHistory) (receipts : List Receipt) (numbers : Settlement) : Type 0 where
  pub beginning : TakesABeginning p s
  pub epochs : HoldsEarlierEpochs s
  pub promises : KeepsPromises p s
  pub exact : numbers ≡ settlement p s receipts
  pub taken : numbers.taken ≤ numbers.sent
  pub confirmed : (i : ℕ) (receipt : Receipt) → slice_get receipts i ≡ Some receipt
      → (n : ℕ) × (entry : Completion) × (slice_get p.journal n ≡ Some entry) × (receipt ≡ receipt_of entry)
  pub once : (i j : ℕ) (receipt : Receipt) → slice_get receipts i ≡ Some receipt → slice_get receipts j ≡ Some receipt → i ≡ j
  pub distinct : (m n : ℕ) (a b : Completion) → slice_get p.journal m ≡ Some a → slice_get p.journal n ≡ Some b → a.write.number ≡ b.write.number → m ≡ n

-- The joining lemma of two nodes at rest: what a settlement says if it is not refused.
abbrev pub JoinedRunsSettle : Type 0
JoinedRunsSettle =
    JoinedRuns IsSoundOpening (λ p s. (receipts : List Receipt) (faulty : Bool) (numbers : Settlement) → settle p s receipts faulty ≡ Ok numbers
    → Settles p s receipts numbers)

-- The same for any disks and identifiers.
abbrev pub JoinedRunsSettleAnyhow : Type 0
JoinedRunsSettleAnyhow =
    JoinedRuns HasRanges (λ p s. (receipts : List Receipt) (faulty : Bool) (numbers : Settlement) → settle p s receipts faulty ≡ Ok numbers
    → SettlesAnyhow p s receipts numbers)
