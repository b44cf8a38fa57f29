-- Each transition of a secondary is its step of the model, for every history that leaves the state.
use Rattle.std.specs.Prelude.{ℕ, ◌≡◌, ◌==◌, Bool, List, length, Option, Some, ok_or, slice_get, Result, Ok, Err}
use Rattle.blocks.specs.declared.tuple.Tuple.{Tuple}
use Rattle.blocks.specs.declared.settings.Settings.{Settings}
use Rattle.blocks.specs.declared.refusal.Refusal.{Refusal}
use Rattle.blocks.specs.declared.refusal.Refusal.TheVariants.{NothingThere}
use Rattle.blocks.specs.declared.outcome.Done.{Done}
use Rattle.blocks.specs.declared.outcome.What.TheVariants as what
use Rattle.blocks.specs.declared.outcome.Reply.{Reply}
use Rattle.blocks.specs.declared.outcome.Reply.TheVariants as reply
use Rattle.model.specs.Contents.{BlockMap}
use Rattle.model.specs.Stream.{StreamItem}
use Rattle.model.specs.Frames.{Packet, Received}
use Rattle.model.specs.Refusals.{done_with}
use Rattle.model.specs.Secondary as model
use Rattle.model.specs.Secondary.{SecondaryHistory, secondary_opening, secondary_connection, items_taken, answers_due, next_pending, is_drained}
use Rattle.model.specs.SecondarySteps as step
use Rattle.peerdisk.specs.Pending.{next}
use Rattle.secondary_protocol.specs.Core.{SecondaryState, fresh, open_end, receive, peer, peer_fault, ack_out, close_end, start, due, whole}
use Rattle.secondary_protocol.specs.Leaves.{Leaves}

-- a result as the model's reply
abbrev pub replied : {R : Type 0} → (R → Done) → Result R Refusal → Reply
replied as_reply (Ok done) = reply.Ok (as_reply done)
replied as_reply (Err refusal) = reply.Refused refusal

-- the report of a step that has nothing to report
abbrev pub plainly : Unit {0} → Done
plainly _ = done_with what.Nothing

-- The transition gives the reply of the model's step, and its state is the one that the step leaves.
pub record Agrees {R : Type 0} (as_reply : R → Done) (got : Result R Refusal × SecondaryState) (step : Reply × SecondaryHistory) : Type 0 where
  pub reply : replied as_reply got.0 ≡ step.0
  pub leaves : Leaves got.1 step.1

-- a new secondary's state is the one that the opening leaves
abbrev pub FreshIsOpening : Type 0
FreshIsOpening = (settings : Settings) (disk : BlockMap) (tuple : Tuple) → Leaves (fresh settings tuple) (secondary_opening settings disk tuple)

-- the secondary opens its end
abbrev pub OpensAgree : Type 0
OpensAgree = (unseen : ℕ) (s : SecondaryState) (h : SecondaryHistory) → Leaves s h
    → Agrees plainly (open_end (step.next_number unseen h) s) (step.open_secondary unseen h)

-- it takes any frame
abbrev pub ReceivesAgree : Type 0
ReceivesAgree = (frame : Option Received) (out_of_memory : Bool) (s : SecondaryState) (h : SecondaryHistory) → Leaves s h
    → Agrees (λ done. done) (receive frame out_of_memory s) (step.receive frame out_of_memory h)

-- its disk finishes an item
abbrev pub AppliesAgree : Type 0
AppliesAgree = (place : ℕ) (s : SecondaryState) (h : SecondaryHistory) → Leaves s h → Agrees plainly (peer place s) (step.peer place h)

-- its disk fails an item, after any of its blocks were written
abbrev pub FaultsAgree : Type 0
FaultsAgree = (place : ℕ) (offsets : List ℕ) (s : SecondaryState) (h : SecondaryHistory) → Leaves s h
    → Agrees plainly (peer_fault place s) (step.peer_fault place offsets h)

-- it pushes a frame
abbrev pub PushesAgree : Type 0
PushesAgree = (room out_of_memory : Bool) (s : SecondaryState) (h : SecondaryHistory) → Leaves s h
    → Agrees (λ done. done) (ack_out room out_of_memory s) (step.ack_out room out_of_memory h)

-- it closes its end
abbrev pub ClosesAgree : Type 0
ClosesAgree = (s : SecondaryState) (h : SecondaryHistory) → Leaves s h → Agrees plainly (close_end s) (step.close_secondary h)

-- The state gives what the history gives: the lowest pending place, whether nothing is pending, how far it is whole;
-- the item that a place may apply is the stream's; and the due frame is the next one that the end is to send.
pub record Says (s : SecondaryState) (h : SecondaryHistory) : Type 0 where
  pub next : next s.pending ≡ ok_or (next_pending h) NothingThere
  pub drained : (length s.pending == 0) ≡ is_drained h
  pub whole : whole s ≡ model.whole h
  pub items : (place : ℕ) (item : StreamItem) → start place s ≡ Ok item → slice_get (items_taken (secondary_connection h)) place ≡ Some item
  pub owes : (packet : Packet) → due s ≡ Ok packet → slice_get (answers_due h.settings (secondary_connection h)) (secondary_connection h).pushed ≡ Some packet

-- every state gives what each history that leaves it gives
abbrev pub StatesSay : Type 0
StatesSay = (s : SecondaryState) (h : SecondaryHistory) → Leaves s h → Says s h
