-- Worked examples of resynchronisation.
use Rattle.std.specs.Prelude.{◌≡◌, List, [], ◌∷◌, ◌++◌}
use Rattle.blocks.specs.declared.refusal.Refusal.TheVariants as refusal
use Rattle.blocks.specs.declared.outcome.Decision.TheVariants.{BitmapSync, FullSync}
use Rattle.blocks.specs.declared.outcome.Reply.TheVariants as reply
use Rattle.blocks.specs.declared.command.Command.TheVariants as command
use Rattle.blocks.specs.SettingsRange.{standard}
use Rattle.model.specs.Pair.{Event, LocalEvent, SendEvent, ReceiveEvent, PeerEvent, AckOutEvent, AckInEvent, ResyncEvent, ResyncFaultEvent, ClosePrimaryEvent}
use Rattle.model.specs.Pair.{CloseSecondaryEvent, PairHistory, tuples, marked, differing}
use Rattle.model.specs.Rows.{words, fresh_with, connected, connect, connecting, replies, after, fill, refused, done, accepted, item, frame, decided, resynced}
use Rattle.model.specs.Rows.{completing, with_barrier, with_sync}

-- both ends close
abbrev pub closed_twice : List Event
closed_twice = ClosePrimaryEvent ∷ CloseSecondaryEvent ∷ []

-- With no marked block a resync ends in the step in which it starts.
pub record NothingMarked : Type 0 where
  pub answers : replies (closed_twice ++ connect 9 11) (connected standard) ≡ reply.Closed 0 ∷ done ∷ connecting (with_sync (decided BitmapSync))
  pub source : tuples (after (closed_twice ++ connect 9 11) (connected standard)) ≡ (words 7 0 9 1, words 1 0 0 0)
  pub sends : replies (SendEvent ∷ SendEvent ∷ ReceiveEvent ∷ ReceiveEvent ∷ []) (after (closed_twice ++ connect 9 11) (connected standard))
      ≡ item command.SyncUuid 0 ∷ item command.Uuids 1 ∷ item command.SyncUuid 0 ∷ item command.Uuids 1 ∷ []
  pub adopted : tuples (after (closed_twice ++ connect 9 11 ++ SendEvent ∷ SendEvent ∷ ReceiveEvent ∷ ReceiveEvent ∷ []) (connected standard)) ≡ (
    words 7 0 9 1,
    words 7 0 9 1,
  )

-- A peer without data takes everything.
pub record EmptyPeer : Type 0 where
  pub answers : replies (connect 5 7) (fresh_with standard (words 1 0 0 0) (words 0 0 0 0)) ≡ connecting (decided FullSync)
  pub identifiers : tuples (after (connect 5 7) (fresh_with standard (words 1 0 0 0) (words 0 0 0 0))) ≡ (words 1 5 0 0, words 0 0 0 0)
  pub marks : marked (after (connect 5 7) (fresh_with standard (words 1 0 0 0) (words 0 0 0 0))) ≡ 0 ∷ 1 ∷ 2 ∷ 3 ∷ 4 ∷ 5 ∷ 6 ∷ 7 ∷ []

-- A device of one block, with a peer without data.
abbrev pub one_block : PairHistory
one_block = fresh_with (record standard { blocks = 1 }) (words 1 0 0 0) (words 0 0 0 0)

-- a read that fails, the one block under way, another copy, a write to it, and the loss of the link
abbrev pub one_block_resync : List Event
one_block_resync = connect 5 7 ++ ResyncFaultEvent ∷ ResyncEvent ∷ ResyncEvent ∷ fill 0 1 170 ∷ ClosePrimaryEvent ∷ []

-- One block is under way at a time, and a write to it is refused. A failed read changes nothing. The lost link leaves
-- the block marked.
pub record OneBlock : Type 0 where
  pub answers : replies one_block_resync one_block
      ≡ connecting (decided FullSync) ++ refused refusal.ReadFault ∷ resynced 0 1 ∷ refused refusal.NothingToDo ∷ refused (refusal.Conflict 0) ∷ reply.Closed 0
      ∷ []
  pub marks : marked (after one_block_resync one_block) ≡ 0 ∷ []

-- Two writes while the link was down, and the resync that copies them.
abbrev pub written_alone : List Event
written_alone = closed_twice ++ fill 3 1 170 ∷ fill 6 1 187 ∷ LocalEvent 1 ∷ LocalEvent 2 ∷ []

-- connected again after two writes without a link
abbrev pub two_marked : PairHistory
two_marked = after (written_alone ++ connect 9 11) (connected standard)

-- the first block is copied
abbrev pub first_copied : List Event
first_copied = SendEvent ∷ ReceiveEvent ∷ ResyncEvent ∷ SendEvent ∷ ReceiveEvent ∷ PeerEvent 1 ∷ AckOutEvent ∷ AckInEvent ∷ []

-- the second block is copied
abbrev pub second_copied : List Event
second_copied = ResyncEvent ∷ SendEvent ∷ SendEvent ∷ ReceiveEvent ∷ ReceiveEvent ∷ PeerEvent 3 ∷ AckOutEvent ∷ AckOutEvent ∷ AckInEvent ∷ AckInEvent ∷ []

-- the peer takes the resync's end
abbrev pub ended : List Event
ended = SendEvent ∷ SendEvent ∷ ReceiveEvent ∷ ReceiveEvent ∷ []

-- writes without a link are completed alone and marked; the next connection begins a resync
pub record WrittenAlone : Type 0 where
  pub answers : replies written_alone (connected standard) ≡ reply.Closed 0 ∷ done ∷ accepted 1 ∷ accepted 2 ∷ completing 1 done ∷ completing 2 done ∷ []
  pub marks : marked (after written_alone (connected standard)) ≡ 3 ∷ 6 ∷ []
  pub connects : replies (connect 9 11) (after written_alone (connected standard)) ≡ connecting (decided BitmapSync)

-- that resync, step by step, to its end
pub record Resynced : Type 0 where
  pub target : tuples (after (SendEvent ∷ ReceiveEvent ∷ []) two_marked) ≡ (words 7 9 1 0, words 9 0 0 0)
  pub first : replies first_copied two_marked
      ≡ item command.SyncUuid 0 ∷ item command.SyncUuid 0 ∷ resynced 3 1 ∷ item command.RsDataReply 1 ∷ item command.RsDataReply 1 ∷ done ∷ frame
      command.RsWriteAck ∷ with_barrier 1 (frame command.RsWriteAck) ∷ []
  pub second : replies second_copied (after first_copied two_marked)
      ≡ resynced 6 3 ∷ item command.Barrier 2 ∷ item command.RsDataReply 3 ∷ item command.Barrier 2 ∷ item command.RsDataReply 3 ∷ done ∷ frame
      command.BarrierAck ∷ frame command.RsWriteAck
      ∷ frame command.BarrierAck ∷ with_sync (with_barrier 2 (frame command.RsWriteAck)) ∷ []
  pub source : tuples (after (first_copied ++ second_copied) two_marked) ≡ (words 7 0 9 1, words 9 0 0 0)
  pub third : replies ended (after (first_copied ++ second_copied) two_marked) ≡ item command.Barrier 4 ∷ item command.Uuids 5 ∷ item command.Barrier 4 ∷ item
      command.Uuids 5 ∷ []
  pub adopted : tuples (after (first_copied ++ second_copied ++ ended) two_marked) ≡ (words 7 0 9 1, words 7 0 9 1)
  pub unmarked : marked (after (first_copied ++ second_copied ++ ended) two_marked) ≡ []
  pub same : differing (after (first_copied ++ second_copied ++ ended) two_marked) ≡ []

-- The link is lost after the resync ended at its source and before its target knows: everything is copied.
abbrev pub broken_end : PairHistory
broken_end = after (first_copied ++ second_copied ++ closed_twice) two_marked

-- the link is lost before the peer took the end: the next connection copies everything
pub record BrokenEnd : Type 0 where
  pub lost : tuples broken_end ≡ (words 11 7 9 1, words 9 0 0 0)
  pub connects : replies (connect 13 15) broken_end ≡ connecting (decided FullSync)
  pub marks : marked (after (connect 13 15) broken_end) ≡ 0 ∷ 1 ∷ 2 ∷ 3 ∷ 4 ∷ 5 ∷ 6 ∷ 7 ∷ []
  pub identifiers : tuples (after (connect 13 15) broken_end) ≡ (words 11 13 7 9, words 9 0 0 0)

-- Writes during a resync: one that overlaps the block under way is refused, and an open write keeps its blocks from the
-- resync.
pub record AmongWrites : Type 0 where
  pub under_way : replies (ResyncEvent ∷ fill 2 2 204 ∷ fill 6 1 221 ∷ SendEvent ∷ SendEvent ∷ SendEvent ∷ ReceiveEvent ∷ ReceiveEvent ∷ ReceiveEvent ∷
      PeerEvent 1 ∷ AckOutEvent ∷ AckInEvent ∷ ResyncEvent ∷ []) two_marked
      ≡ resynced 3 1 ∷ refused (refusal.Conflict 0) ∷ accepted 3 ∷ item command.SyncUuid 0 ∷ item command.RsDataReply 1 ∷ item command.Data 2
      ∷ item command.SyncUuid 0 ∷ item command.RsDataReply 1 ∷ item command.Data 2 ∷ done ∷ frame command.RsWriteAck ∷ with_barrier 1
      (frame command.RsWriteAck) ∷ refused refusal.NothingToDo ∷ []
  pub passed_over : replies (fill 3 1 204 ∷ ResyncEvent ∷ []) two_marked ≡ accepted 3 ∷ resynced 6 2 ∷ []
