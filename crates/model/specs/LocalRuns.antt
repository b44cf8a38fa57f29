-- Runs of one node by itself, with any frames taken and any answers of its link.
use Rattle.std.specs.Prelude.{ℕ, Bool, List, [], ◌∷◌, Option}
use Rattle.model.specs.Frames.{Received}
use Rattle.model.specs.Primary.{PrimaryHistory}
use Rattle.model.specs.PrimarySteps.{open_primary, submit, local_done, local_fault, send, resync_next, resync_fault, close_primary, take_completed}
use Rattle.model.specs.Acknowledgements.{ack_in}
use Rattle.model.specs.Secondary.{SecondaryHistory}
use Rattle.model.specs.SecondarySteps.{open_secondary, receive, peer, peer_fault, ack_out, close_secondary}

-- The events of a primary. After a fault of its disk any of the offsets may be written. `room` and the frame are what
-- its link gives, and no frame means that it has none; `out_of_memory` says that a growth of memory is refused. A resync reads what
-- the disk has, or is given any bytes in its place.
pub data PrimaryEvent : Type 0 where
  Opens : (sync loss : ℕ) (out_of_memory : Bool) → PrimaryEvent
  Submits : (first : ℕ) (contents : List (List ℕ)) (out_of_memory : Bool) → PrimaryEvent
  WritesLocally : (number : ℕ) → PrimaryEvent
  FailsLocally : (number : ℕ) (offsets : List ℕ) → PrimaryEvent
  Sends : (room out_of_memory : Bool) → PrimaryEvent
  Takes : (frame : Option Received) (out_of_memory : Bool) → PrimaryEvent
  Resyncs : (read : Option (List ℕ)) (out_of_memory : Bool) → PrimaryEvent
  FailsResync : (out_of_memory : Bool) → PrimaryEvent
  Closes : PrimaryEvent
  Receipts : (number : ℕ) → PrimaryEvent

-- the history after an event; its reply is left out
abbrev pub primary_after : PrimaryEvent → PrimaryHistory → PrimaryHistory
primary_after (Opens sync loss out_of_memory) h = (open_primary sync loss out_of_memory h).1
primary_after (Submits first contents out_of_memory) h = (submit first contents out_of_memory h).1
primary_after (WritesLocally number) h = (local_done number h).1
primary_after (FailsLocally number offsets) h = (local_fault number offsets h).1
primary_after (Sends room out_of_memory) h = (send room out_of_memory h).1
primary_after (Takes frame out_of_memory) h = (ack_in frame out_of_memory h).1
primary_after (Resyncs read out_of_memory) h = (resync_next read out_of_memory h).1
primary_after (FailsResync out_of_memory) h = (resync_fault out_of_memory h).1
primary_after Closes h = (close_primary h).1
primary_after (Receipts number) h = (take_completed number h).1

-- the history after these events, in order
abbrev pub primary_run : List PrimaryEvent → PrimaryHistory → PrimaryHistory
primary_run [] h = h
primary_run (event ∷ events) h = primary_run events (primary_after event h)

-- The events of a secondary. `unseen` counts the connections that the primary opened since this node's last one, and
-- that it never saw.
pub data SecondaryEvent : Type 0 where
  OpensToo : (unseen : ℕ) → SecondaryEvent
  Receives : (frame : Option Received) (out_of_memory : Bool) → SecondaryEvent
  Applies : (place : ℕ) → SecondaryEvent
  FailsToApply : (place : ℕ) (offsets : List ℕ) → SecondaryEvent
  Acknowledges : (room out_of_memory : Bool) → SecondaryEvent
  ClosesToo : SecondaryEvent

-- the history after an event; its reply is left out
abbrev pub secondary_after : SecondaryEvent → SecondaryHistory → SecondaryHistory
secondary_after (OpensToo unseen) h = (open_secondary unseen h).1
secondary_after (Receives frame out_of_memory) h = (receive frame out_of_memory h).1
secondary_after (Applies place) h = (peer place h).1
secondary_after (FailsToApply place offsets) h = (peer_fault place offsets h).1
secondary_after (Acknowledges room out_of_memory) h = (ack_out room out_of_memory h).1
secondary_after ClosesToo h = (close_secondary h).1

-- the history after these events, in order
abbrev pub secondary_run : List SecondaryEvent → SecondaryHistory → SecondaryHistory
secondary_run [] h = h
secondary_run (event ∷ events) h = secondary_run events (secondary_after event h)
