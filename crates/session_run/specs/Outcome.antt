-- The outcome of a session, as the model's settlement of its nodes has it.
use Rattle.std.specs.Prelude.{ℕ, ◌≡◌, ◌*◌, true, false, List, Option, Some, length, slice_get}
use Rattle.std.specs.Io.KnownBytes.{Appends}
use Rattle.std.specs.List.{list_any}
use Rattle.blocks.specs.Contents.{blocks_of}
use Rattle.blocks.specs.SettingsRange.{standard}
use Rattle.blocks.specs.declared.settings.Settings.{Settings}
use Rattle.blocks.specs.declared.tuple.Tuple.{Tuple}
use Rattle.model.specs.Headline.{IsJoined}
use Rattle.model.specs.LocalRuns.{PrimaryEvent, SecondaryEvent, primary_run, secondary_run}
use Rattle.model.specs.Primary.{PrimaryHistory, is_failed, local_map}
use Rattle.model.specs.Secondary.{SecondaryHistory, secondary_map}
use Rattle.model.specs.Settlement.{Receipt, Settlement, is_at_rest, settlement}
use Rattle.model.specs.Theorems.{Opening, Settles, primary_at, secondary_at}
use Rattle.model.specs.WriteOrder.{KeepsWriteOrder}
use Rattle.program_values.specs.declared.run_options.Path.TheVariants as path
use Rattle.program_values.specs.declared.run_options.RunOptions.{RunOptions}
use Rattle.primary.specs.State.{PrimaryView, node as primary_node}
use Rattle.primary_protocol.specs.Node.{NodeHas as PrimaryHas}
use Rattle.program_values.specs.Text.{results_text}
use Rattle.session_run.specs.Plan.{AreOfPlan}
use Rattle.secondary.specs.State.{SecondaryView, node as secondary_node}
use Rattle.secondary_protocol.specs.Node.{NodeHas as SecondaryHas}
use Rattle.session_run.specs.declared.report.RunReport.{RunReport}
use Rattle.settlement.specs.Settled.{AreEntries, WereHonest}
use Rattle.told.specs.Stands.{IsWritten}

-- This number is that of the settlement with these receipts, for all histories that the two nodes have.
abbrev pub IsNumber : (Settlement → ℕ) → PrimaryView → SecondaryView → List Receipt → ℕ → Type 0
IsNumber of primary secondary receipts n =
    (p : PrimaryHistory) (s : SecondaryHistory) → PrimaryHas (primary_node primary) p → SecondaryHas (secondary_node secondary) s
    → n ≡ of (settlement p s receipts)

-- For all histories that the two nodes have, if these are joined and began with honest identifiers: a settlement with these
-- receipts says all that the theorem on joined nodes says of one, and these are two of its numbers.
abbrev pub HasSettled : PrimaryView → SecondaryView → List Receipt → ℕ → ℕ → Type 0
HasSettled primary secondary receipts confirmed unmarked =
    (p : PrimaryHistory) (s : SecondaryHistory) → PrimaryHas (primary_node primary) p → SecondaryHas (secondary_node secondary) s → IsJoined p s
    → WereHonest p s → (numbers : Settlement) × (Settles p s receipts numbers × ((confirmed ≡ numbers.confirmed) × (unmarked ≡ numbers.unmarked)))

-- For all histories that the two nodes have, joined or not: they are at rest, and the receipts are those of entries of the primary's
-- journal.
abbrev pub AreAtRest : PrimaryView → SecondaryView → List Receipt → Type 0
AreAtRest primary secondary receipts =
    (p : PrimaryHistory) (s : SecondaryHistory) → PrimaryHas (primary_node primary) p → SecondaryHas (secondary_node secondary) s
    → (is_at_rest p s ≡ true) × AreEntries p receipts

-- the identifiers of both disks where they are the same, and of an unknown disk
abbrev pub first : Tuple
first = record { current = 1; bitmap = 0; first_historical = 0; second_historical = 0 }

abbrev pub unknown : Tuple
unknown = record { current = 0; bitmap = 0; first_historical = 0; second_historical = 0 }

-- The opening of a run with these settings, over images of these bytes: no block is marked, and the peer's disk is unknown
-- unless the images are the same.
pub record IsOpening (chosen : Settings) (local_image peer_image : List ℕ) (o : Opening) : Type 0 where
  pub settings : o.settings ≡ chosen
  pub peer_settings : o.peer_settings ≡ chosen
  pub local : o.local ≡ slice_get (blocks_of 4096 local_image)
  pub peer : o.peer ≡ slice_get (blocks_of 4096 peer_image)
  pub own : o.own ≡ first
  pub same : local_image ≡ peer_image → o.peer_tuple ≡ first
  pub other : (local_image ≡ peer_image → ⊥) → o.peer_tuple ≡ unknown
  pub marks : (block : ℕ) → o.marks block ≡ false

-- What a run comes to: two runs of the model, one of each node, from the opening. Each receipt is that of a planned write, which stands under its number and with
-- the bytes of the plan in the history to which the primary's run leads, and each is that of an entry of its journal, none given twice. Both runs lead to rest. The report has the
-- numbers of the settlement with all receipts, and the disks that the runs lead to. If the runs are joined, the settlement says all that the theorem on joined
-- nodes says of one, and if no local write failed besides, the peer's disk has an order of writes while it calls itself consistent.
pub record IsOutcome (options : RunOptions) (o : Opening) (report : RunReport) : Type 0 where
  pub here : List PrimaryEvent
  pub there : List SecondaryEvent
  pub receipts : List Receipt
  pub planned : AreOfPlan (IsWritten (primary_run here (primary_at o))) options receipts
  pub completed : report.completed ≡ length receipts
  pub confirmed : report.confirmed ≡ (settlement (primary_run here (primary_at o)) (secondary_run there (secondary_at o)) receipts).confirmed
  pub unmarked : report.unmarked ≡ (settlement (primary_run here (primary_at o)) (secondary_run there (secondary_at o)) receipts).unmarked
  pub rest : is_at_rest (primary_run here (primary_at o)) (secondary_run there (secondary_at o)) ≡ true
  pub entries : AreEntries (primary_run here (primary_at o)) receipts
  pub settles : IsJoined (primary_run here (primary_at o)) (secondary_run there (secondary_at o))
      → Settles (primary_run here (primary_at o)) (secondary_run there (secondary_at o)) receipts
      (settlement (primary_run here (primary_at o)) (secondary_run there (secondary_at o)) receipts)
  pub order : IsJoined (primary_run here (primary_at o)) (secondary_run there (secondary_at o))
      → list_any (λ accepted. is_failed accepted.outcome) (primary_run here (primary_at o)).writes ≡ false
      → KeepsWriteOrder (primary_run here (primary_at o)) (secondary_run there (secondary_at o))
  pub local : (block : ℕ) → slice_get report.disks.local block ≡ local_map (primary_run here (primary_at o)) block
  pub peer : (block : ℕ) → slice_get report.disks.peer block ≡ secondary_map (secondary_run there (secondary_at o)) block

-- such an outcome of two runs that are joined
pub record IsLinked (options : RunOptions) (o : Opening) (report : RunReport) : Type 0 where
  pub outcome : IsOutcome options o report
  pub joined : IsJoined (primary_run outcome.here (primary_at o)) (secondary_run outcome.there (secondary_at o))

-- The outcome of a run with these options over these images. Over a link in this process the runs of the model are joined.
pub record IsRun (options : RunOptions) (local_image peer_image : List ℕ) (report : RunReport) : Type 0 where
  pub opening : Opening
  pub opens : IsOpening (record standard { protocol = options.protocol; blocks = options.blocks }) local_image peer_image opening
  pub outcome : IsOutcome options opening report
  pub joined : options.path ≡ path.Link → IsJoined (primary_run outcome.here (primary_at opening)) (secondary_run outcome.there (secondary_at opening))

-- A run with these options over some images that made all of its writes, and after which no block without a mark differs. What was
-- printed, where the bytes that were there before and are there after are known, is its three lines: that all writes of the plan were
-- completed, how many are confirmed, and that no block differs without a mark.
pub record HasRun (options : RunOptions) (before after : Option (List ℕ)) : Type 0 where
  pub local_image : List ℕ
  pub peer_image : List ℕ
  pub report : RunReport
  pub run : IsRun options local_image peer_image report
  pub completed : report.completed ≡ options.writers * options.writes
  pub unmarked : report.unmarked ≡ 0
  pub printed : Appends before after (results_text (record { completed = options.writers * options.writes; settled = report.confirmed; unmarked = Some 0 }))
