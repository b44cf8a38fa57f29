-- Each transition of a primary is its step of the model, for every history that leaves the state.
use Rattle.std.specs.Prelude.{ℕ, ◌≡◌, Bool, List, [], length, Option, unwrap_or, Result, Ok, Err}
use Rattle.blocks.specs.declared.tuple.Tuple.{Tuple}
use Rattle.blocks.specs.declared.settings.Settings.{Settings}
use Rattle.blocks.specs.declared.refusal.Refusal.{Refusal}
use Rattle.blocks.specs.declared.outcome.What.TheVariants as what
use Rattle.blocks.specs.declared.outcome.Reply.{Reply}
use Rattle.blocks.specs.declared.outcome.Reply.TheVariants as reply
use Rattle.blocks.specs.SettingsRange.{IsInRange}
use Rattle.model.specs.Contents.{BlockMap, IsDisk}
use Rattle.model.specs.Frames.{Received}
use Rattle.model.specs.Refusals.{done_with}
use Rattle.model.specs.Primary.{Completion, PrimaryHistory, primary_opening, local_map}
use Rattle.model.specs.PrimarySteps as step
use Rattle.model.specs.Acknowledgements as step_in
use Rattle.model.specs.LocalRuns.{PrimaryEvent, primary_run}
use Rattle.primary_protocol.specs.Core.{JournalEntry, Completed, PrimaryState, fresh}
use Rattle.primary_protocol.specs.Transitions.{open_end, whole_blocks, submit, local_done, local_fault, send, close_end, take_completed, resync_next}
use Rattle.primary_protocol.specs.Transitions.{resync_fault}
use Rattle.primary_protocol.specs.Taking.{ack_in}
use Rattle.primary_protocol.specs.Leaves.{marks_in, Leaves, is_linked}

-- A run of a primary by itself leads from an opening to this history.
pub record IsReached (h : PrimaryHistory) : Type 0 where
  pub settings : Settings
  pub disk : BlockMap
  pub tuple : Tuple
  pub marks : ℕ → Bool
  pub events : List PrimaryEvent
  pub ranges : IsInRange settings
  pub sized : IsDisk settings.blocks disk
  pub is : primary_run events (primary_opening settings disk tuple marks) ≡ h

-- a result as the model's reply
abbrev pub replied : {R : Type 0} → (R → Reply) → Result R Refusal → Reply
replied as_reply (Ok done) = as_reply done
replied as_reply (Err refusal) = reply.Refused refusal

-- the reply of a step that has nothing to report
abbrev pub plainly : Unit {0} → Reply
plainly _ = reply.Ok (done_with what.Nothing)

-- The transition gives the reply of the model's step, and its state is the one that the step leaves.
pub record Agrees {R : Type 0} (as_reply : R → Reply) (got : Result R Refusal × PrimaryState) (step : Reply × PrimaryHistory) : Type 0 where
  pub reply : replied as_reply got.0 ≡ step.0
  pub leaves : Leaves got.1 step.1

-- a new primary's state is the one that the opening leaves
abbrev pub FreshIsOpening : Type 0
FreshIsOpening = (settings : Settings) (disk : BlockMap) (tuple : Tuple) (marks : ℕ → Bool)
    → Leaves (fresh settings tuple (marks_in settings.blocks marks)) (primary_opening settings disk tuple marks)

-- the primary opens its end
abbrev pub OpensAgree : Type 0
OpensAgree = (sync loss : ℕ) (out_of_memory : Bool) (s : PrimaryState) (h : PrimaryHistory) → IsReached h → Leaves s h
    → Agrees plainly (open_end sync loss out_of_memory s) (step.open_primary sync loss out_of_memory h)

-- it accepts a write
abbrev pub SubmitsAgree : Type 0
SubmitsAgree = (first : ℕ) (bytes : List ℕ) (out_of_memory : Bool) (s : PrimaryState) (h : PrimaryHistory) → IsReached h → Leaves s h
    → Agrees reply.Ok (submit first bytes out_of_memory s) (step.submit first (whole_blocks bytes) out_of_memory h)

-- its disk finishes a write
abbrev pub WritesAgree : Type 0
WritesAgree = (number : ℕ) (s : PrimaryState) (h : PrimaryHistory) → IsReached h → Leaves s h → Agrees reply.Ok (local_done number s) (step.local_done number h)

-- its disk fails a write, after any of its blocks were written
abbrev pub FaultsAgree : Type 0
FaultsAgree = (number : ℕ) (offsets : List ℕ) (s : PrimaryState) (h : PrimaryHistory) → IsReached h → Leaves s h
    → Agrees reply.Ok (local_fault number s) (step.local_fault number offsets h)

-- it sends a frame
abbrev pub SendsAgree : Type 0
SendsAgree = (room out_of_memory : Bool) (s : PrimaryState) (h : PrimaryHistory) → IsReached h → Leaves s h
    → Agrees reply.Ok (send room out_of_memory s) (step.send room out_of_memory h)

-- it takes any frame
abbrev pub TakesAgree : Type 0
TakesAgree = (frame : Option Received) (out_of_memory : Bool) (s : PrimaryState) (h : PrimaryHistory) → IsReached h → Leaves s h
    → Agrees reply.Ok (ack_in frame out_of_memory s) (step_in.ack_in frame out_of_memory h)

-- it reads a block for a resync, which gives these bytes or what the history says
abbrev pub ResyncsAgree : Type 0
ResyncsAgree = (disk : ℕ → List ℕ) (read : Option (List ℕ)) (out_of_memory : Bool) (s : PrimaryState) (h : PrimaryHistory) → IsReached h → Leaves s h
    → ((block : ℕ) → disk block ≡ step.given read h block)
    → Agrees reply.Ok (resync_next disk out_of_memory s) (step.resync_next read out_of_memory h)

-- its disk fails that read
abbrev pub ResyncFaultsAgree : Type 0
ResyncFaultsAgree = (out_of_memory : Bool) (s : PrimaryState) (h : PrimaryHistory) → IsReached h → Leaves s h
    → Agrees reply.Ok (resync_fault out_of_memory s) (step.resync_fault out_of_memory h)

-- it closes its end
abbrev pub ClosesAgree : Type 0
ClosesAgree = (s : PrimaryState) (h : PrimaryHistory) → IsReached h → Leaves s h → Agrees reply.Closed (close_end s) (step.close_primary h)

-- What a caller gets for a write is what the journal has of it.
abbrev pub SameAnswer : ℕ → Result JournalEntry Refusal → Result Completion Refusal → Type 0
SameAnswer number (Ok entry) (Ok completion) =
    (completion.write.number ≡ number) × (entry.first ≡ completion.write.first) × (entry.count ≡ length completion.write.contents)
    × (entry.fate ≡ Completed (is_linked completion.kind) completion.home)
SameAnswer number (Err refusal) (Err other) = refusal ≡ other
SameAnswer number (Ok entry) (Err other) = ⊥
SameAnswer number (Err refusal) (Ok completion) = ⊥

-- The transition returns what the model's step returns, and its state is the one that the step leaves.
pub record TellsReceipt (number : ℕ) (s : PrimaryState) (h : PrimaryHistory) : Type 0 where
  pub answer : SameAnswer number (take_completed number s).0 (step.take_completed number h).0
  pub leaves : Leaves (take_completed number s).1 (step.take_completed number h).1

-- a caller takes a receipt
abbrev pub ReceiptsAgree : Type 0
ReceiptsAgree = (number : ℕ) (s : PrimaryState) (h : PrimaryHistory) → IsReached h → Leaves s h → TellsReceipt number s h
