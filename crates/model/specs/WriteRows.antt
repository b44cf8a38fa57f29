-- Worked examples of writes over an established connection.
use Rattle.std.specs.Prelude.{◌≡◌, List, [], ◌∷◌, ◌++◌, Some}
use Rattle.blocks.specs.declared.settings.Settings.{Settings}
use Rattle.blocks.specs.declared.settings.Protocol.TheVariants as protocol
use Rattle.blocks.specs.declared.refusal.Refusal.TheVariants as refusal
use Rattle.blocks.specs.declared.outcome.Decision.TheVariants.{NoSync}
use Rattle.blocks.specs.declared.outcome.Reply.{Reply}
use Rattle.blocks.specs.declared.outcome.Reply.TheVariants as reply
use Rattle.blocks.specs.declared.command.Command.TheVariants as command
use Rattle.blocks.specs.SettingsRange.{standard}
use Rattle.model.specs.Pair.{Event, OpenEvent, LocalEvent, SendEvent, ReceiveEvent, PeerEvent, PeerFaultEvent, AckOutEvent, AckInEvent, ClosePrimaryEvent}
use Rattle.model.specs.Pair.{tuples, marked, differing}
use Rattle.model.specs.Primary.{first_unreleased}
use Rattle.model.specs.Rows.{words, fresh, connected, connect, connecting, replies, after, fill, refused, done, accepted, item, frame, decided, completing}
use Rattle.model.specs.Rows.{with_barrier}
use Rattle.model.specs.Status.{primary_line, secondary_line, linked_primary, linked_secondary}

-- one write under protocol C, from its submission to its completion at the peer's acknowledgement
abbrev pub one_write : List Event
one_write = fill 2 1 170 ∷ LocalEvent 1 ∷ SendEvent ∷ ReceiveEvent ∷ PeerEvent 0 ∷ AckOutEvent ∷ AckInEvent ∷ []

-- the replies to one write, step by step
abbrev pub one_write_replies : List Reply
one_write_replies = accepted 1 ∷ done ∷ item command.Data 0 ∷ item command.Data 0 ∷ done ∷ frame command.WriteAck ∷ with_barrier 1
    (completing 1 (frame command.WriteAck)) ∷ []

-- One write under protocol C, from its submission to its completion.
pub record OneWrite : Type 0 where
  pub connects : replies (connect 5 7) (fresh standard) ≡ connecting (decided NoSync)
  pub answers : replies one_write (connected standard) ≡ one_write_replies
  pub identifiers : tuples (after one_write (connected standard)) ≡ (words 1 0 0 0, words 1 0 0 0)
  pub primary : primary_line (after one_write (connected standard)).primary ≡ linked_primary protocol.C 0 0 1 0
  pub secondary : secondary_line (after one_write (connected standard)).secondary ≡ linked_secondary protocol.C 0 0

-- With at most one unreleased write, the next one has to wait for the barrier's acknowledgement.
abbrev pub one_at_a_time : Settings
one_at_a_time = record standard { backlog = 1 }

-- a second write waits for the release of the first, as the log has room for one
abbrev pub two_in_turn : List Event
two_in_turn = one_write ++ fill 3 1 187 ∷ SendEvent ∷ ReceiveEvent ∷ AckOutEvent ∷ AckInEvent ∷ fill 3 1 187 ∷ []

-- the replies, the first write that is not released before and after, and the blocks on which the disks differ then
pub record TwoInTurn : Type 0 where
  pub answers : replies two_in_turn (connected one_at_a_time)
      ≡ one_write_replies ++ refused refusal.LogFull ∷ item command.Barrier 1 ∷ item command.Barrier 1 ∷ frame command.BarrierAck ∷ frame command.BarrierAck ∷
      accepted 2 ∷ []
  pub unreleased : first_unreleased (after one_write (connected one_at_a_time)).primary ≡ Some 1
  pub next : first_unreleased (after two_in_turn (connected one_at_a_time)).primary ≡ Some 2
  pub same : differing (after two_in_turn (connected one_at_a_time)) ≡ []
  pub local : replies (LocalEvent 2 ∷ []) (after two_in_turn (connected one_at_a_time)) ≡ done ∷ []
  pub ahead : differing (after (two_in_turn ++ LocalEvent 2 ∷ []) (connected one_at_a_time)) ≡ 3 ∷ []

-- Under protocol A a write is completed once it is sent and on the local disk, whichever comes last.
abbrev pub asynchronous : Settings
asynchronous = record standard { protocol = protocol.A }

-- protocol A completes a write once it is sent and on the local disk, in either order
pub record Asynchronous : Type 0 where
  pub sent_first : replies (fill 2 1 170 ∷ SendEvent ∷ LocalEvent 1 ∷ []) (connected asynchronous) ≡ accepted 1 ∷ item command.Data 0 ∷ with_barrier 1
      (completing 1 done) ∷ []
  pub written_first : replies (fill 2 1 170 ∷ LocalEvent 1 ∷ SendEvent ∷ []) (connected asynchronous) ≡ accepted 1 ∷ done ∷ with_barrier 1
      (completing 1 (item command.Data 0)) ∷ []

-- Under protocol B the peer may lose what it has received: the close marks it.
abbrev pub semisynchronous : Settings
semisynchronous = record standard { protocol = protocol.B }

-- under protocol B a write is completed, and then the peer's disk fails it
abbrev pub received_and_lost : List Event
received_and_lost = fill 2 1 170 ∷ LocalEvent 1 ∷ SendEvent ∷ ReceiveEvent ∷ AckOutEvent ∷ AckInEvent ∷ PeerFaultEvent 0 0 ∷ []

-- the replies; the write was promised as received, and the disks differ in a block that only the close marks
pub record ReceivedAndLost : Type 0 where
  pub answers : replies received_and_lost (connected semisynchronous)
      ≡ accepted 1 ∷ done ∷ item command.Data 0 ∷ item command.Data 0 ∷ frame command.RecvAck ∷ with_barrier 1 (completing 1 (frame command.RecvAck)) ∷ done ∷
      []
  pub unmarked : marked (after received_and_lost (connected semisynchronous)) ≡ []
  pub differs : differing (after received_and_lost (connected semisynchronous)) ≡ 2 ∷ []
  pub closes : replies (ClosePrimaryEvent ∷ []) (after received_and_lost (connected semisynchronous)) ≡ reply.Closed 0 ∷ []
  pub marks : marked (after (received_and_lost ++ ClosePrimaryEvent ∷ []) (connected semisynchronous)) ≡ 2 ∷ []
  pub identifiers : tuples (after (received_and_lost ++ ClosePrimaryEvent ∷ []) (connected semisynchronous)) ≡ (words 7 1 0 0, words 1 0 0 0)

-- A write that overlaps an open one is refused with its number; once that is completed the next is in the next epoch.
pub record Overlapping : Type 0 where
  pub answers : replies (fill 2 3 17 ∷ fill 4 2 34 ∷ LocalEvent 1 ∷ SendEvent ∷ ReceiveEvent ∷ PeerEvent 0 ∷ AckOutEvent ∷ AckInEvent ∷ fill 4 2 34 ∷ SendEvent
      ∷ SendEvent ∷ []) (connected standard)
      ≡ accepted 1 ∷ refused (refusal.Conflict 1) ∷ done ∷ item command.Data 0 ∷ item command.Data 0 ∷ done ∷ frame command.WriteAck ∷ with_barrier 1
      (completing 1 (frame command.WriteAck))
      ∷ accepted 2 ∷ item command.Barrier 1 ∷ item command.Data 2 ∷ []

-- The peer starts no item of an epoch before all items of the epochs before it are applied.
abbrev pub two_epochs : List Event
two_epochs =
    fill 0 1 1 ∷ fill 1 1 2 ∷ LocalEvent 1 ∷ LocalEvent 2 ∷ SendEvent ∷ SendEvent ∷ ReceiveEvent ∷ ReceiveEvent ∷ PeerEvent 1 ∷ AckOutEvent ∷ AckInEvent
    ∷ fill 2 1 3 ∷ SendEvent ∷ SendEvent ∷ ReceiveEvent ∷ ReceiveEvent ∷ PeerEvent 3 ∷ PeerEvent 0 ∷ PeerEvent 3 ∷ PeerEvent 3
    ∷ AckOutEvent ∷ AckInEvent ∷ AckOutEvent ∷ AckInEvent ∷ AckOutEvent ∷ AckInEvent ∷ LocalEvent 3 ∷ []

-- writes in two epochs; the second waits for the first
pub record TwoEpochs : Type 0 where
  pub answers : replies two_epochs (connected standard)
      ≡ accepted 1 ∷ accepted 2 ∷ done ∷ done ∷ item command.Data 0 ∷ item command.Data 1 ∷ item command.Data 0 ∷ item command.Data 1 ∷ done ∷ frame
      command.WriteAck
      ∷ with_barrier 1 (completing 2 (frame command.WriteAck)) ∷ accepted 3 ∷ item command.Barrier 2 ∷ item command.Data 3 ∷ item command.Barrier 2 ∷ item
      command.Data 3
      ∷ refused refusal.EpochOpen ∷ done ∷ done ∷ refused refusal.UnknownJob ∷ frame command.WriteAck ∷ completing 1 (frame command.WriteAck)
      ∷ frame command.BarrierAck ∷ frame command.BarrierAck ∷ frame command.WriteAck ∷ frame command.WriteAck ∷ with_barrier 2 (completing 3 done) ∷ []

-- A link for one frame is full after one, and a log for one write after one.
pub record Full : Type 0 where
  pub link : replies (fill 0 1 170 ∷ fill 1 1 187 ∷ SendEvent ∷ SendEvent ∷ ReceiveEvent ∷ SendEvent ∷ SendEvent ∷ [])
      (connected (record standard { link = 1 }))
      ≡ accepted 1 ∷ accepted 2 ∷ item command.Data 0 ∷ refused refusal.LinkFull ∷ item command.Data 0 ∷ item command.Data 1 ∷ refused refusal.NothingThere ∷ []
  pub log : replies (fill 0 1 170 ∷ fill 1 1 187 ∷ []) (connected one_at_a_time) ≡ accepted 1 ∷ refused refusal.LogFull ∷ []

-- What is refused before a connection is established, and what right after it.
pub record AtTheStart : Type 0 where
  pub alone : replies (fill 0 1 170 ∷ OpenEvent 0 7 ∷ OpenEvent 5 1 ∷ []) (fresh standard) ≡ refused refusal.NotConnected ∷ refused refusal.UsedIdentifier ∷
      refused refusal.UsedIdentifier ∷ []
  pub linked : replies (OpenEvent 9 11 ∷ AckInEvent ∷ LocalEvent 1 ∷ []) (connected standard) ≡ refused refusal.NotDrained ∷ refused refusal.NothingThere ∷
      refused refusal.UnknownJob ∷ []
