-- Worked examples of a lost link and of the next connection.
use Rattle.std.specs.Prelude.{◌≡◌, List, [], ◌∷◌, ◌++◌}
use Rattle.blocks.specs.declared.settings.Settings.{Settings}
use Rattle.blocks.specs.declared.settings.Protocol.TheVariants as protocol
use Rattle.blocks.specs.declared.refusal.Refusal.TheVariants as refusal
use Rattle.blocks.specs.declared.outcome.Decision.TheVariants.{BitmapSync}
use Rattle.blocks.specs.declared.outcome.Reply.TheVariants as reply
use Rattle.blocks.specs.declared.command.Command.TheVariants as command
use Rattle.blocks.specs.SettingsRange.{standard}
use Rattle.model.specs.Pair.{Event, OpenEvent, LocalEvent, SendEvent, ReceiveEvent, PeerEvent, AckOutEvent, AckInEvent, ResyncEvent, ClosePrimaryEvent}
use Rattle.model.specs.Pair.{CloseSecondaryEvent, tuples, marked, differing}
use Rattle.model.specs.Rows.{words, connected, connect, connecting, replies, after, fill, refused, done, accepted, item, frame, decided, resynced, completing}
use Rattle.model.specs.Rows.{with_barrier}
use Rattle.model.specs.Status.{primary_line, linked_primary, lone_primary}

-- The close marks every unreleased write, sent or not.
abbrev pub lost_link : List Event
lost_link = fill 0 2 17 ∷ fill 2 2 34 ∷ fill 5 1 51 ∷ SendEvent ∷ SendEvent ∷ ReceiveEvent ∷ ClosePrimaryEvent ∷ CloseSecondaryEvent ∷ ReceiveEvent ∷ SendEvent
    ∷ []

-- The replies, the marks and the primary's line: all blocks of the three writes are marked, one of them never sent.
pub record LostLink : Type 0 where
  pub answers : replies lost_link (connected standard)
      ≡ accepted 1 ∷ accepted 2 ∷ accepted 3 ∷ item command.Data 0 ∷ item command.Data 1 ∷ item command.Data 0 ∷ reply.Closed 0 ∷ done ∷ refused
      refusal.NotConnected ∷ refused refusal.NotConnected ∷ []
  pub marks : marked (after lost_link (connected standard)) ≡ 0 ∷ 1 ∷ 2 ∷ 3 ∷ 5 ∷ []
  pub primary : primary_line (after lost_link (connected standard)).primary ≡ lone_primary protocol.C 0 3 0 20

-- The next connection waits until the peer is drained. A resync copies no block that an open write covers.
abbrev pub reconnected : List Event
reconnected = OpenEvent 9 11 ∷ PeerEvent 0 ∷ connect 9 11

-- After that loss: no opening while items are pending, then a resync from the marks.
pub record Reconnected : Type 0 where
  pub answers : replies reconnected (after lost_link (connected standard)) ≡ refused refusal.NotDrained ∷ done ∷ connecting (decided BitmapSync)
  pub identifiers : tuples (after (lost_link ++ reconnected) (connected standard)) ≡ (words 7 9 1 0, words 1 0 0 0)
  pub resyncs : replies (ResyncEvent ∷ LocalEvent 1 ∷ ResyncEvent ∷ []) (after (lost_link ++ reconnected) (connected standard)) ≡ refused refusal.NothingToDo ∷
      completing 1 done ∷ resynced 0 1 ∷ []

-- A write whose epoch is acknowledged is not released before its local write is done.
abbrev pub acknowledged_first : List Event
acknowledged_first = fill 2 1 170 ∷ SendEvent ∷ SendEvent ∷ ReceiveEvent ∷ ReceiveEvent ∷ PeerEvent 0 ∷ AckOutEvent ∷ AckOutEvent ∷ AckInEvent ∷ AckInEvent ∷ []

-- epochs of one write
abbrev pub short_epochs : Settings
short_epochs = record standard { max_epoch = 1 }

-- The replies, the primary's line, where the disks differ, and the mark that a close leaves.
pub record AcknowledgedFirst : Type 0 where
  pub answers : replies acknowledged_first (connected short_epochs)
      ≡ with_barrier 1 (accepted 1) ∷ item command.Data 0 ∷ item command.Barrier 1 ∷ item command.Data 0 ∷ item command.Barrier 1 ∷ done ∷ frame
      command.WriteAck ∷ frame command.BarrierAck
      ∷ frame command.WriteAck ∷ frame command.BarrierAck ∷ []
  pub primary : primary_line (after acknowledged_first (connected short_epochs)).primary ≡ linked_primary protocol.C 0 1 0 0
  pub differs : differing (after acknowledged_first (connected short_epochs)) ≡ 2 ∷ []
  pub closes : replies (ClosePrimaryEvent ∷ []) (after acknowledged_first (connected short_epochs)) ≡ reply.Closed 0 ∷ []
  pub marks : marked (after (acknowledged_first ++ ClosePrimaryEvent ∷ []) (connected short_epochs)) ≡ 2 ∷ []
