-- Worked examples of marks that a connected write clears: each begins after two writes without a link and the
-- connection after them, with blocks 3 and 6 marked.
use Rattle.std.specs.Prelude.{◌≡◌, List, [], ◌∷◌, ◌++◌, take}
use Rattle.blocks.specs.declared.command.Command.TheVariants as command
use Rattle.blocks.specs.SettingsRange.{standard}
use Rattle.model.specs.Pair.{Event, LocalEvent, LocalFaultEvent, SendEvent, ReceiveEvent, PeerEvent, AckOutEvent, AckInEvent, ResyncEvent, PairHistory, tuples}
use Rattle.model.specs.Pair.{marked}
use Rattle.model.specs.Rows.{words, connected, connect, replies, after, fill, done, accepted, item, frame, resynced, completing, with_barrier, with_sync}
use Rattle.model.specs.ResyncRows.{two_marked, written_alone}

-- A write over a marked block is applied at the peer, which acknowledges its epoch.
abbrev pub over_a_mark : List Event
over_a_mark =
    fill 3 1 204 ∷ LocalEvent 3 ∷ SendEvent ∷ SendEvent ∷ ReceiveEvent ∷ ReceiveEvent ∷ PeerEvent 1 ∷ AckOutEvent ∷ AckInEvent
    ∷ SendEvent ∷ ReceiveEvent ∷ AckOutEvent ∷ []

-- the write's release clears the mark, and the resync skips its block
pub record Cleared : Type 0 where
  pub answers : replies over_a_mark two_marked
      ≡ accepted 3 ∷ done ∷ item command.SyncUuid 0 ∷ item command.Data 1 ∷ item command.SyncUuid 0 ∷ item command.Data 1 ∷ done ∷ frame command.WriteAck
      ∷ with_barrier 1 (completing 3 (frame command.WriteAck)) ∷ item command.Barrier 2 ∷ item command.Barrier 2 ∷ frame command.BarrierAck ∷ []
  pub before : marked (after over_a_mark two_marked) ≡ 3 ∷ 6 ∷ []
  pub released : replies (AckInEvent ∷ []) (after over_a_mark two_marked) ≡ frame command.BarrierAck ∷ []
  pub marks : marked (after (over_a_mark ++ AckInEvent ∷ []) two_marked) ≡ 6 ∷ []
  pub next : replies (ResyncEvent ∷ []) (after (over_a_mark ++ AckInEvent ∷ []) two_marked) ≡ resynced 6 3 ∷ []

-- Both marked blocks are written, and the peer applies the writes.
abbrev pub over_both_marks : List Event
over_both_marks =
    fill 3 1 204 ∷ fill 6 1 221 ∷ LocalEvent 3 ∷ LocalEvent 4 ∷ SendEvent ∷ SendEvent ∷ SendEvent ∷ ReceiveEvent ∷ ReceiveEvent ∷ ReceiveEvent
    ∷ PeerEvent 1 ∷ PeerEvent 2 ∷ AckOutEvent ∷ AckOutEvent ∷ []

-- the acknowledgements of both, their barrier, and its acknowledgement
abbrev pub both_answered : List Event
both_answered = AckInEvent ∷ AckInEvent ∷ SendEvent ∷ ReceiveEvent ∷ AckOutEvent ∷ AckInEvent ∷ SendEvent ∷ []

-- the release that clears the last mark ends the resync
pub record ClearedToTheEnd : Type 0 where
  pub answers : replies both_answered (after over_both_marks two_marked)
      ≡ with_barrier 1 (completing 3 (frame command.WriteAck)) ∷ completing 4 (frame command.WriteAck) ∷ item command.Barrier 3 ∷ item command.Barrier 3
      ∷ frame command.BarrierAck ∷ with_sync (frame command.BarrierAck) ∷ item command.Uuids 4 ∷ []
  pub identifiers : tuples (after (over_both_marks ++ both_answered) two_marked) ≡ (words 7 0 9 1, words 9 0 0 0)

-- The same writes, with one of their blocks under way in the resync when their epoch is acknowledged.
abbrev pub copied_meanwhile : List Event
copied_meanwhile = AckInEvent ∷ AckInEvent ∷ ResyncEvent ∷ SendEvent ∷ ReceiveEvent ∷ AckOutEvent ∷ AckInEvent ∷ []

-- the release clears the last mark, and the resync goes on until the block under way is acknowledged
pub record ClearedUnderWay : Type 0 where
  pub answers : replies (copied_meanwhile ++ SendEvent ∷ ReceiveEvent ∷ PeerEvent 4 ∷ AckOutEvent ∷ AckInEvent ∷ []) (after over_both_marks two_marked)
      ≡ with_barrier 1 (completing 3 (frame command.WriteAck)) ∷ completing 4 (frame command.WriteAck) ∷ resynced 3 4 ∷ item command.Barrier 3 ∷ item
      command.Barrier 3
      ∷ frame command.BarrierAck ∷ frame command.BarrierAck ∷ item command.RsDataReply 4 ∷ item command.RsDataReply 4 ∷ done ∷ frame command.RsWriteAck
      ∷ with_sync (with_barrier 2 (frame command.RsWriteAck)) ∷ []
  pub marks : marked (after (over_both_marks ++ copied_meanwhile) two_marked) ≡ []

-- The same connection with epochs of one write, so that a BARRIER_ACK can come before the local disk is done.
abbrev pub short_epochs_marked : PairHistory
short_epochs_marked = after (written_alone ++ connect 9 11) (connected (record standard { max_epoch = 1 }))

-- the peer has applied the write and acknowledged its epoch
abbrev pub answered_first : List Event
answered_first =
    fill 3 1 204 ∷ SendEvent ∷ SendEvent ∷ SendEvent ∷ ReceiveEvent ∷ ReceiveEvent ∷ ReceiveEvent ∷ PeerEvent 1 ∷ AckOutEvent ∷ AckOutEvent
    ∷ AckInEvent ∷ AckInEvent ∷ []

-- the local write clears the mark, and nothing clears it before
pub record ClearedByTheLocalWrite : Type 0 where
  pub submitted : replies (fill 3 1 204 ∷ []) short_epochs_marked ≡ with_barrier 1 (accepted 3) ∷ []
  pub before : marked (after answered_first short_epochs_marked) ≡ 3 ∷ 6 ∷ []
  pub done_here : replies (LocalEvent 3 ∷ []) (after answered_first short_epochs_marked) ≡ completing 3 done ∷ []
  pub marks : marked (after (answered_first ++ LocalEvent 3 ∷ []) short_epochs_marked) ≡ 6 ∷ []

-- The block is written again before the first write is released.
abbrev pub written_again : List Event
written_again =
    fill 3 1 204 ∷ LocalEvent 3 ∷ SendEvent ∷ SendEvent ∷ ReceiveEvent ∷ ReceiveEvent ∷ PeerEvent 1 ∷ AckOutEvent ∷ AckInEvent
    ∷ fill 3 1 221 ∷ SendEvent ∷ ReceiveEvent ∷ AckOutEvent ∷ AckInEvent ∷ []

-- the first write's release clears no block that the second one covers
pub record UnderALaterWrite : Type 0 where
  pub marks : marked (after written_again two_marked) ≡ 3 ∷ 6 ∷ []

-- The local disk fails the write, and the peer applies it.
abbrev pub failed_here : List Event
failed_here =
    fill 3 1 204 ∷ SendEvent ∷ SendEvent ∷ ReceiveEvent ∷ ReceiveEvent ∷ PeerEvent 1 ∷ LocalFaultEvent 3 1 ∷ SendEvent ∷ ReceiveEvent
    ∷ AckOutEvent ∷ AckOutEvent ∷ AckInEvent ∷ AckInEvent ∷ []

-- a failed write clears nothing
pub record FailedClearsNothing : Type 0 where
  pub answers : replies (AckOutEvent ∷ AckOutEvent ∷ AckInEvent ∷ AckInEvent ∷ []) (after (take 9 failed_here) two_marked) ≡ frame command.WriteAck ∷ frame
      command.BarrierAck ∷ frame command.WriteAck ∷ frame command.BarrierAck ∷ []
  pub marks : marked (after failed_here two_marked) ≡ 3 ∷ 6 ∷ []
