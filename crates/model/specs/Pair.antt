-- A pair: the two histories and the link between them, its fourteen events, and runs over lists of them.
use Rattle.std.specs.Prelude.{ℕ, ◌-◌, nat_lt, ◌==◌, Bool, true, false, ◌&&◌, not, List, [], ◌∷◌, ◌++◌, length, take, map, filter, Option, Some, None, slice_get}
use Rattle.std.specs.Prelude.{option_map, Ok}
use Rattle.blocks.specs.declared.tuple.Tuple.{Tuple}
use Rattle.blocks.specs.declared.settings.Settings.{Settings}
use Rattle.blocks.specs.declared.refusal.Refusal.TheVariants.{BadRange, UnknownJob, NotDrained}
use Rattle.blocks.specs.declared.outcome.Reply.{Reply}
use Rattle.blocks.specs.declared.outcome.Reply.TheVariants as reply
use Rattle.model.specs.Contents.{BlockMap}
use Rattle.model.specs.Stream.{contents_of, below}
use Rattle.model.specs.Frames.{Packet, Received}
use Rattle.model.specs.Refusals.{Test, first_refusal}
use Rattle.model.specs.Primary.{PrimaryHistory, primary_opening, primary_connection, frames_due, local_map}
use Rattle.model.specs.PrimarySteps.{open_tests, open_primary, submit, local_done, local_fault, is_unfinished, accepted_at, send, resync_next, resync_fault}
use Rattle.model.specs.PrimarySteps.{close_primary}
use Rattle.model.specs.Acknowledgements.{ack_in}
use Rattle.model.specs.Secondary.{SecondaryHistory, secondary_opening, secondary_connection, is_drained, items_taken, secondary_map, answers_due}
use Rattle.model.specs.SecondarySteps.{open_secondary, receive, peer, peer_fault, peer_tests, ack_out, close_secondary}

-- the events of a pair
pub data Event : Type 0 where
  OpenEvent : (sync loss : ℕ) → Event
  SubmitEvent : (first : ℕ) (contents : List (List ℕ)) → Event
  LocalEvent : (number : ℕ) → Event
  LocalFaultEvent : (number kept : ℕ) → Event
  SendEvent : Event
  ReceiveEvent : Event
  PeerEvent : (place : ℕ) → Event
  PeerFaultEvent : (place kept : ℕ) → Event
  AckOutEvent : Event
  AckInEvent : Event
  ResyncEvent : Event
  ResyncFaultEvent : Event
  ClosePrimaryEvent : Event
  CloseSecondaryEvent : Event

-- the histories of both nodes
pub record PairHistory : Type 0 where
  pub primary : PrimaryHistory
  pub secondary : SecondaryHistory

-- the pair at its start, from its parts
abbrev pub pair_opening : Settings → BlockMap → BlockMap → Tuple → Tuple → (ℕ → Bool) → PairHistory
pair_opening settings local peer own peer_tuple marks =
    record { primary = primary_opening settings local own marks; secondary = secondary_opening settings peer peer_tuple }

-- The link. Both ends opened together, so their last connections are the two ends of one link.

-- the frames that the primary has pushed, of those that are due
abbrev pub pushed_frames : PairHistory → List Packet
pushed_frames h = let c = primary_connection h.primary in take c.pushed (frames_due h.primary.settings c)

-- the frames that the secondary has pushed, of those that are due
abbrev pub pushed_answers : PairHistory → List Packet
pushed_answers h = let c = secondary_connection h.secondary in take c.pushed (answers_due h.secondary.settings c)

-- The next frame that the secondary takes, as it reads it: the frames are honest, so it is the packet.
abbrev pub next_frame : PairHistory → Option Received
next_frame h = option_map (λ packet. Ok packet) (slice_get (pushed_frames h) (length (secondary_connection h.secondary).taken))

-- the next frame for the primary, if there is one
abbrev pub next_answer : PairHistory → Option Received
next_answer h = option_map (λ packet. Ok packet) (slice_get (pushed_answers h) (length (primary_connection h.primary).taken))

-- The direction to the secondary has room: fewer than `link` of its frames are pushed and not taken.
abbrev pub has_room : PairHistory → Bool
has_room h = nat_lt ((primary_connection h.primary).pushed - length (secondary_connection h.secondary).taken) h.primary.settings.link

-- the direction to the primary has room
abbrev pub answers_have_room : PairHistory → Bool
answers_have_room h = nat_lt ((secondary_connection h.secondary).pushed - length (primary_connection h.primary).taken) h.secondary.settings.link

-- Steps.

-- a step of the primary, which leaves the secondary as it is
abbrev pub on_primary : (PrimaryHistory → Reply × PrimaryHistory) → PairHistory → Reply × PairHistory
on_primary step h = let done = step h.primary in (done.0, record h { primary = done.1 })

-- a step of the secondary, which leaves the primary as it is
abbrev pub on_secondary : (SecondaryHistory → Reply × SecondaryHistory) → PairHistory → Reply × PairHistory
on_secondary step h = let done = step h.secondary in (done.0, record h { secondary = done.1 })

-- the tests of an opening of both ends: the secondary's end is closed and it is drained, and then the primary's own
-- tests
abbrev pub open_pair_tests : PairHistory → ℕ → ℕ → Bool → List Test
open_pair_tests h sync loss out_of_memory =
    (not ((secondary_connection h.secondary).closed && is_drained h.secondary), NotDrained) ∷ open_tests h.primary sync loss out_of_memory

-- opens both ends, or neither
abbrev pub open_pair : ℕ → ℕ → Bool → PairHistory → Reply × PairHistory
open_pair sync loss out_of_memory h = elim (first_refusal (open_pair_tests h sync loss out_of_memory)) [
  | Some refusal ↦ (reply.Refused refusal, h)
  | None ↦ let primary = open_primary sync loss out_of_memory h.primary in (
    primary.0,
    record { primary = primary.1; secondary = (open_secondary 0 h.secondary).1 },
  )
]

-- The fault keeps more blocks than the write has; `BadRange` (1) refuses it, after the other tests.
abbrev pub keeps_too_many : ℕ → Option ℕ → Bool
keeps_too_many kept None = false
keeps_too_many kept (Some count) = nat_lt count kept

-- a local write fails after its first `kept` blocks
abbrev pub local_fault_kept : ℕ → ℕ → PrimaryHistory → Reply × PrimaryHistory
local_fault_kept number kept h =
    elim (first_refusal ((not (is_unfinished h number), UnknownJob) ∷
    (keeps_too_many kept (option_map (λ accepted. length accepted.write.contents) (accepted_at h number)), BadRange) ∷ [])) [
      | Some refusal ↦ (reply.Refused refusal, h)
      | None ↦ local_fault number (below kept) h
    ]

-- an item fails on the peer's disk after its first `kept` blocks
abbrev pub peer_fault_kept : ℕ → ℕ → SecondaryHistory → Reply × SecondaryHistory
peer_fault_kept place kept h =
    elim (first_refusal (peer_tests h place ++ (
      keeps_too_many kept (option_map (λ item. length (contents_of item)) (slice_get (items_taken (secondary_connection h)) place)),
      BadRange,
    ) ∷ [])) [
      | Some refusal ↦ (reply.Refused refusal, h)
      | None ↦ peer_fault place (below kept) h
    ]

-- One event. `out_of_memory` says that its growth of memory is refused; an event that needs none is not affected.
abbrev pub step : Event → Bool → PairHistory → Reply × PairHistory
step (OpenEvent sync loss) out_of_memory h = open_pair sync loss out_of_memory h
step (SubmitEvent first contents) out_of_memory h = on_primary (submit first contents out_of_memory) h
step (LocalEvent number) out_of_memory h = on_primary (local_done number) h
step (LocalFaultEvent number kept) out_of_memory h = on_primary (local_fault_kept number kept) h
step SendEvent out_of_memory h = on_primary (send (has_room h) out_of_memory) h
step ReceiveEvent out_of_memory h = on_secondary (receive (next_frame h) out_of_memory) h
step (PeerEvent place) out_of_memory h = on_secondary (peer place) h
step (PeerFaultEvent place kept) out_of_memory h = on_secondary (peer_fault_kept place kept) h
step AckOutEvent out_of_memory h = on_secondary (ack_out (answers_have_room h) out_of_memory) h
step AckInEvent out_of_memory h = on_primary (ack_in (next_answer h) out_of_memory) h
step ResyncEvent out_of_memory h = on_primary (resync_next None out_of_memory) h
step ResyncFaultEvent out_of_memory h = on_primary (resync_fault out_of_memory) h
step ClosePrimaryEvent out_of_memory h = on_primary close_primary h
step CloseSecondaryEvent out_of_memory h = on_secondary close_secondary h

-- A run of events in order, each with whether it is out of memory: the replies, and the history at the end.
abbrev pub run : List (Event × Bool) → PairHistory → List Reply × PairHistory
run [] h = ([], h)
run (event ∷ events) h = let done = step event.0 event.1 h in let rest = run events done.1 in (done.0 ∷ rest.0, rest.1)

-- a run with ample memory
abbrev pub run_fed : List Event → PairHistory → List Reply × PairHistory
run_fed events h = run (map (λ event. (event, false)) events) h

-- What is observed of a pair.

-- two blocks have the same bytes
abbrev pub same_bytes : List ℕ → List ℕ → Bool
same_bytes [] [] = true
same_bytes (x ∷ xs) (y ∷ ys) = (x == y) && same_bytes xs ys
same_bytes _ _ = false

-- two disks hold the same in a block, or neither has it
abbrev pub same_block : Option (List ℕ) → Option (List ℕ) → Bool
same_block None None = true
same_block (Some a) (Some b) = same_bytes a b
same_block _ _ = false

-- the disks differ in a block
abbrev pub differs : PairHistory → ℕ → Bool
differs h block = not (same_block (local_map h.primary block) (secondary_map h.secondary block))

-- the blocks on which the disks differ, rising
abbrev pub differing : PairHistory → List ℕ
differing h = filter (differs h) (below h.primary.settings.blocks)

-- the blocks that are marked, rising
abbrev pub marked : PairHistory → List ℕ
marked h = filter h.primary.marks (below h.primary.settings.blocks)

-- both nodes' identifiers
abbrev pub tuples : PairHistory → Tuple × Tuple
tuples h = (h.primary.tuple, h.secondary.tuple)
