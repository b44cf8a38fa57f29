-- Worked examples of ranges, of the activity log, and of faults of a disk.
use Rattle.std.specs.Prelude.{◌≡◌, true, List, [], ◌∷◌, ◌++◌, map, take, Some, Err}
use Rattle.blocks.specs.declared.settings.Settings.{Settings}
use Rattle.blocks.specs.declared.refusal.Refusal.TheVariants as refusal
use Rattle.blocks.specs.declared.outcome.Reply.TheVariants as reply
use Rattle.blocks.specs.declared.command.Command.TheVariants as command
use Rattle.blocks.specs.SettingsRange.{standard}
use Rattle.model.specs.Primary.{local_map}
use Rattle.model.specs.PrimarySteps.{take_completed}
use Rattle.model.specs.Secondary.{secondary_connection, pending, secondary_map, is_drained}
use Rattle.model.specs.Pair.{Event, LocalEvent, LocalFaultEvent, SendEvent, ReceiveEvent, PeerEvent, PeerFaultEvent, AckOutEvent, AckInEvent, ClosePrimaryEvent}
use Rattle.model.specs.Pair.{marked, differing}
use Rattle.model.specs.Rows.{connected, replies, after, fill, refused, done, accepted, item, frame, completing, with_barrier}

-- 2,048 blocks are two extents
abbrev pub two_extents : Settings
two_extents = record standard { blocks = 2048 }

-- The last range of a device, and ranges that are too long, empty, past the end, or over two extents.
pub record Ranges : Type 0 where
  pub answers : replies (fill 2016 32 170 ∷ fill 0 33 170 ∷ fill 0 0 170 ∷ fill 2048 1 170 ∷ fill 2047 2 170 ∷ fill 1023 2 170 ∷ []) (connected two_extents)
      ≡ accepted 1 ∷ refused refusal.BadRange ∷ refused refusal.BadRange ∷ refused refusal.BadRange ∷ refused refusal.BadRange ∷ refused refusal.BadRange ∷ []

-- With one slot, a write to another extent is accepted once the first extent's writes are released, not when they are
-- completed.
pub record OneSlot : Type 0 where
  pub answers : replies (fill 0 1 170 ∷ fill 1024 1 187 ∷ LocalEvent 1 ∷ SendEvent ∷ ReceiveEvent ∷ PeerEvent 0 ∷ AckOutEvent ∷ AckInEvent ∷ fill 1024 1 187
      ∷ SendEvent ∷ ReceiveEvent ∷ AckOutEvent ∷ AckInEvent ∷ fill 1024 1 187 ∷ []) (connected (record two_extents { slots = 1 }))
      ≡ accepted 1 ∷ refused refusal.ActivityFull ∷ done ∷ item command.Data 0 ∷ item command.Data 0 ∷ done ∷ frame command.WriteAck
      ∷ with_barrier 1 (completing 1 (frame command.WriteAck)) ∷ refused refusal.ActivityFull
      ∷ item command.Barrier 1 ∷ item command.Barrier 1 ∷ frame command.BarrierAck ∷ frame command.BarrierAck ∷ accepted 2 ∷ []

-- A fault of the local disk: the first block is written, the range is marked, and a later write to it is accepted.
abbrev pub local_fault : List Event
local_fault = fill 2 2 170 ∷ LocalFaultEvent 1 1 ∷ []

-- the replies, the marks, the local disk, and the receipt of the failed write, once
pub record LocalFault : Type 0 where
  pub answers : replies local_fault (connected standard) ≡ accepted 1 ∷ with_barrier 1 done ∷ []
  pub marks : marked (after local_fault (connected standard)) ≡ 2 ∷ 3 ∷ []
  pub new : local_map (after local_fault (connected standard)).primary 2 ≡ Some (170 ∷ [])
  pub old : local_map (after local_fault (connected standard)).primary 3 ≡ Some (0 ∷ [])
  pub goes_on : replies (fill 3 1 187 ∷ LocalEvent 1 ∷ []) (after local_fault (connected standard)) ≡ accepted 2 ∷ refused refusal.UnknownJob ∷ []
  pub receipt : (take_completed 1 (after local_fault (connected standard)).primary).0 ≡ Err refusal.LocalFault
  pub taken : (take_completed 1 (take_completed 1 (after local_fault (connected standard)).primary).1).0 ≡ Err refusal.UnknownJob

-- A fault may have written all blocks of the write, but no more than it has.
abbrev pub late_fault : List Event
late_fault = fill 2 3 170 ∷ LocalFaultEvent 1 4 ∷ LocalFaultEvent 1 3 ∷ []

-- the replies, and the blocks on which the disks differ then
pub record LateFault : Type 0 where
  pub answers : replies late_fault (connected standard) ≡ accepted 1 ∷ refused refusal.BadRange ∷ with_barrier 1 done ∷ []
  pub differs : differing (after late_fault (connected standard)) ≡ 2 ∷ 3 ∷ 4 ∷ []
  pub marks : marked (after late_fault (connected standard)) ≡ 2 ∷ 3 ∷ 4 ∷ []

-- A fault of the peer's disk closes the peer; the primary's close completes the write and marks it.
abbrev pub peer_fault : List Event
peer_fault = fill 2 3 170 ∷ LocalEvent 1 ∷ SendEvent ∷ ReceiveEvent ∷ PeerFaultEvent 0 1 ∷ PeerEvent 0 ∷ ReceiveEvent ∷ []

-- the replies, and what the primary's close does
pub record PeerFault : Type 0 where
  pub answers : replies peer_fault (connected standard)
      ≡ accepted 1 ∷ done ∷ item command.Data 0 ∷ item command.Data 0 ∷ done ∷ refused refusal.UnknownJob ∷ refused refusal.NotConnected ∷ []
  pub differs : differing (after peer_fault (connected standard)) ≡ 3 ∷ 4 ∷ []
  pub closes : replies (ClosePrimaryEvent ∷ []) (after peer_fault (connected standard)) ≡ reply.Closed 1 ∷ []
  pub marks : marked (after (peer_fault ++ ClosePrimaryEvent ∷ []) (connected standard)) ≡ 2 ∷ 3 ∷ 4 ∷ []

-- epochs of two writes
abbrev pub epochs_of_two : Settings
epochs_of_two = record standard { max_epoch = 2 }

-- The peer takes a whole epoch and a write of the next one, and its disk fails a write of the first.
abbrev pub fault_among_others : List Event
fault_among_others =
    fill 2 1 170 ∷ fill 3 1 187 ∷ fill 4 1 204 ∷ SendEvent ∷ SendEvent ∷ SendEvent ∷ SendEvent ∷ ReceiveEvent ∷ ReceiveEvent ∷ ReceiveEvent ∷ ReceiveEvent ∷
    PeerFaultEvent 0 0 ∷ []

-- The other write of that epoch stays and may still be applied; the one of the later epoch is dropped.
pub record OthersOfTheEpochStay : Type 0 where
  pub before : map (λ entry. entry.0) (pending (secondary_connection (after (take 11 fault_among_others) (connected epochs_of_two)).secondary)) ≡ 0 ∷ 1 ∷ 3 ∷ []
  pub pending : map (λ entry. entry.0) (pending (secondary_connection (after fault_among_others (connected epochs_of_two)).secondary)) ≡ 1 ∷ []
  pub answers : replies (PeerEvent 3 ∷ PeerEvent 0 ∷ PeerEvent 1 ∷ []) (after fault_among_others (connected epochs_of_two)) ≡ refused refusal.UnknownJob ∷
      refused refusal.UnknownJob ∷ done ∷ []
  pub written : secondary_map (after (fault_among_others ++ PeerEvent 1 ∷ []) (connected epochs_of_two)).secondary 3 ≡ Some (187 ∷ [])
  pub drained : is_drained (after (fault_among_others ++ PeerEvent 1 ∷ []) (connected epochs_of_two)).secondary ≡ true
