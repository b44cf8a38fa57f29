-- Worked examples: the replies of a primary's transitions, with given frames of the peer.
use Rattle.std.specs.Prelude.{ℕ, ◌≡◌, true, false, List, [], ◌∷◌, ◌++◌, replicate, filter, Some, None, slice_get, Result, Ok, Err}
use Rattle.blocks.specs.declared.tuple.Tuple.{Tuple}
use Rattle.blocks.specs.declared.settings.Settings.{Settings}
use Rattle.blocks.specs.declared.settings.Protocol.TheVariants as protocol
use Rattle.blocks.specs.declared.refusal.Refusal.{Refusal}
use Rattle.blocks.specs.declared.refusal.Refusal.TheVariants as refusal
use Rattle.blocks.specs.declared.outcome.Done.{Done}
use Rattle.blocks.specs.declared.outcome.Decision.TheVariants.{NoSync}
use Rattle.blocks.specs.declared.outcome.What.TheVariants as what
use Rattle.blocks.specs.declared.command.Command.{Command}
use Rattle.blocks.specs.declared.command.Command.TheVariants as command
use Rattle.blocks.specs.Ranges.{below}
use Rattle.blocks.specs.SettingsRange.{standard}
use Rattle.model.specs.Frames.{Packet, ProtocolFrame, SizesFrame, UuidsFrame, RecvAckFrame, WriteAckFrame, RsWriteAckFrame, BarrierAckFrame}
use Rattle.model.specs.Refusals.{done_with}
use Rattle.model.specs.Rows.{words}
use Rattle.bitmap.specs.Marks.{marked}
use Rattle.primary_protocol.specs.Core.{PrimaryState, fresh}
use Rattle.primary_protocol.specs.Transitions.{open_end, submit, local_done, local_fault, send, close_end, resync_next}
use Rattle.primary_protocol.specs.Taking.{ack_in}

-- the events of an example: a write has one block, filled with a byte, and the peer's frames are given
pub data Move : Type 0 where
  Opens : (sync loss : ℕ) → Move
  Writes : (first byte : ℕ) → Move
  Local : (number : ℕ) → Move
  LocalFails : (number : ℕ) → Move
  Sends : Move
  Takes : (packet : Packet) → Move
  Copies : Move
  Closes : Move

-- the result of a step that has nothing to report, as a plain report
abbrev pub plain : {R : Type 0} → Result R Refusal × PrimaryState → Result Done Refusal × PrimaryState
plain (Ok done, s) = (Ok (done_with what.Nothing), s)
plain (Err e, s) = (Err e, s)

-- one step
abbrev pub moved : Move → PrimaryState → Result Done Refusal × PrimaryState
moved (Opens sync loss) s = plain (open_end sync loss false s)
moved (Writes first byte) s = submit first (replicate 4096 byte) false s
moved (Local number) s = local_done number s
moved (LocalFails number) s = local_fault number s
moved Sends s = send true false s
moved (Takes packet) s = ack_in (Some (Ok packet)) false s
moved Copies s = resync_next (λ block. []) false s
moved Closes s = plain (close_end s)

-- the replies to some events, and the state after them
abbrev pub answers : List Move → PrimaryState → List (Result Done Refusal)
answers [] s = []
answers (move ∷ moves) s = let step = moved move s in step.0 ∷ answers moves step.1

abbrev pub after : List Move → PrimaryState → PrimaryState
after [] s = s
after (move ∷ moves) s = after moves (moved move s).1

-- the marked blocks, rising
abbrev pub marks_of : PrimaryState → List ℕ
marks_of s = filter (marked s.marks) (below 8)

-- Replies.

abbrev pub done : Result Done Refusal
done = Ok (done_with what.Nothing)

abbrev pub accepted : ℕ → Result Done Refusal
accepted number = Ok (done_with (what.Write number))

abbrev pub item : Command → ℕ → Result Done Refusal
item name place = Ok (done_with (what.Frame name (Some place)))

abbrev pub frame : Command → Result Done Refusal
frame name = Ok (done_with (what.Frame name None))

abbrev pub completing : ℕ → Result Done Refusal → Result Done Refusal
completing number (Ok report) = Ok (record report { completed = Some number })
completing number other = other

abbrev pub with_barrier : ℕ → Result Done Refusal → Result Done Refusal
with_barrier epoch (Ok report) = Ok (record report { barrier = Some epoch })
with_barrier epoch other = other

abbrev pub with_sync : Result Done Refusal → Result Done Refusal
with_sync (Ok report) = Ok (record report { synced = true })
with_sync other = other

-- Acknowledgements of one block.

abbrev pub received : ℕ → ℕ → ℕ → Move
received first number place = Takes (RecvAckFrame (record { first = first; number = number; count = 1; place = place }))

abbrev pub written : ℕ → ℕ → ℕ → Move
written first number place = Takes (WriteAckFrame (record { first = first; number = number; count = 1; place = place }))

abbrev pub copied : ℕ → ℕ → Move
copied block place = Takes (RsWriteAckFrame (record { first = block; number = 0; count = 1; place = place }))

-- A connection: the peer has this tuple.
abbrev pub connecting : Settings → ℕ → ℕ → Tuple → List Move
connecting settings sync loss peer =
    Opens sync loss ∷ Sends ∷ Sends ∷ Sends ∷ Takes (ProtocolFrame settings.protocol) ∷ Takes (SizesFrame settings.blocks) ∷ Takes (UuidsFrame peer) ∷ []

-- a new primary after its first connection
abbrev pub connected : Settings → PrimaryState
connected settings = after (connecting settings 5 7 (words 1 0 0 0)) (fresh settings (words 1 0 0 0) (replicate settings.blocks false))

-- Protocol C: a write is completed once it is on both disks, and a barrier ends its epoch.
pub record Synchronous : Type 0 where
  pub hello : answers (connecting standard 5 7 (words 1 0 0 0)) (fresh standard (words 1 0 0 0) (replicate 8 false))
      ≡ done ∷ frame command.Protocol ∷ frame command.Sizes ∷ frame command.Uuids ∷ frame command.Protocol ∷ frame command.Sizes ∷ Ok
      (done_with (what.Decided NoSync)) ∷ []
  pub one_write : answers (Writes 2 170 ∷ Local 1 ∷ Sends ∷ written 2 1 0 ∷ Sends ∷ Takes (BarrierAckFrame 1 1) ∷ []) (connected standard)
      ≡ accepted 1 ∷ done ∷ item command.Data 0 ∷ with_barrier 1 (completing 1 (frame command.WriteAck)) ∷ item command.Barrier 1 ∷ frame command.BarrierAck ∷
      []
  pub held : answers (Writes 2 17 ∷ Writes 2 34 ∷ []) (connected standard) ≡ accepted 1 ∷ Err (refusal.Conflict 1) ∷ []

-- Protocol A: a write is completed once its frame was sent and the local disk has it, in either order.
pub record Asynchronous : Type 0 where
  pub sent_first : answers (Writes 2 170 ∷ Sends ∷ Local 1 ∷ []) (connected (record standard { protocol = protocol.A })) ≡ accepted 1 ∷ item command.Data 0 ∷
      with_barrier 1 (completing 1 done) ∷ []
  pub local_first : answers (Writes 2 170 ∷ Local 1 ∷ Sends ∷ []) (connected (record standard { protocol = protocol.A })) ≡ accepted 1 ∷ done ∷ with_barrier 1
      (completing 1 (item command.Data 0)) ∷ []

-- A lost link: unreleased writes are marked, and a new data generation starts.
pub record Lost : Type 0 where
  pub marks : marks_of (after (Writes 2 170 ∷ Local 1 ∷ Sends ∷ received 2 1 0 ∷ Closes ∷ []) (connected (record standard { protocol = protocol.B }))) ≡ 2 ∷ []
  pub unsent : marks_of (after (Writes 2 170 ∷ Sends ∷ Writes 4 170 ∷ Closes ∷ []) (connected standard)) ≡ 2 ∷ 4 ∷ []
  pub tuple : (after (Writes 2 170 ∷ Closes ∷ []) (connected standard)).tuple ≡ words 7 1 0 0
  pub foreign : answers (Writes 2 170 ∷ Sends ∷ written 2 2 0 ∷ Sends ∷ []) (connected standard) ≡ accepted 1 ∷ item command.Data 0 ∷ Err refusal.UnknownAck ∷
      Err refusal.NotConnected ∷ []

-- Two writes without a link, and the connection after them: both blocks are marked, and a resync starts.
abbrev pub written_alone : List Move
written_alone = Closes ∷ Writes 3 170 ∷ Writes 6 187 ∷ Local 1 ∷ Local 2 ∷ []

abbrev pub two_marked : Settings → PrimaryState
two_marked settings = after (written_alone ++ connecting settings 9 11 (words 1 0 0 0)) (connected settings)

-- both blocks are copied
abbrev pub both_copied : List Move
both_copied = Sends ∷ Copies ∷ Sends ∷ copied 3 1 ∷ Copies ∷ Sends ∷ Sends ∷ Takes (BarrierAckFrame 1 0) ∷ copied 6 3 ∷ []

-- the reply that names a copied block and its place
abbrev pub block : ℕ → ℕ → Result Done Refusal
block number place = Ok (done_with (what.Block (record { 0 = number }) place))

-- A resync from its start to its end, one block at a time.
pub record Resynced : Type 0 where
  pub alone : answers written_alone (connected standard) ≡ done ∷ accepted 1 ∷ accepted 2 ∷ completing 1 done ∷ completing 2 done ∷ []
  pub source : (two_marked standard).tuple ≡ words 7 9 1 0
  pub marks : marks_of (two_marked standard) ≡ 3 ∷ 6 ∷ []
  pub copies : answers both_copied (two_marked standard)
      ≡ item command.SyncUuid 0 ∷ block 3 1 ∷ item command.RsDataReply 1 ∷ with_barrier 1 (frame command.RsWriteAck) ∷ block 6 3 ∷ item command.Barrier 2 ∷ item
      command.RsDataReply 3
      ∷ frame command.BarrierAck ∷ with_sync (with_barrier 2 (frame command.RsWriteAck)) ∷ []
  pub ended : (after both_copied (two_marked standard)).tuple ≡ words 7 0 9 1
  pub identifiers : answers (Sends ∷ Sends ∷ []) (after both_copied (two_marked standard)) ≡ item command.Barrier 4 ∷ item command.Uuids 5 ∷ []
  pub again : answers (copied 6 3 ∷ []) (after both_copied (two_marked standard)) ≡ Err refusal.UnknownAck ∷ []
  pub lost : (after (both_copied ++ Closes ∷ []) (two_marked standard)).tuple ≡ words 11 7 9 1

-- Writes during a resync: a write to the block under way is refused, and an open write keeps its block from the resync.
pub record AmongWrites : Type 0 where
  pub under_way : answers (Copies ∷ Writes 3 204 ∷ Writes 6 221 ∷ Sends ∷ Sends ∷ Sends ∷ copied 3 1 ∷ Copies ∷ []) (two_marked standard)
      ≡ block 3 1 ∷ Err (refusal.Conflict 0) ∷ accepted 3 ∷ item command.SyncUuid 0 ∷ item command.RsDataReply 1 ∷ item command.Data 2 ∷ with_barrier 1
      (frame command.RsWriteAck) ∷ Err refusal.NothingToDo ∷ []
  pub unsent : answers (Sends ∷ Copies ∷ copied 3 1 ∷ []) (two_marked standard) ≡ item command.SyncUuid 0 ∷ block 3 1 ∷ Err refusal.UnknownAck ∷ []
  pub passed_over : answers (Writes 3 204 ∷ Copies ∷ []) (two_marked standard) ≡ accepted 3 ∷ block 6 2 ∷ []

-- A connected write over a mark clears it as it is released: by the BARRIER_ACK, or by the local disk if that comes
-- last. A failed write clears nothing, and nothing is cleared under a later write.
pub record Cleared : Type 0 where
  pub before : marks_of (after (Writes 3 204 ∷ Local 3 ∷ Sends ∷ Sends ∷ written 3 3 1 ∷ Sends ∷ []) (two_marked standard)) ≡ 3 ∷ 6 ∷ []
  pub released : marks_of (after (Writes 3 204 ∷ Local 3 ∷ Sends ∷ Sends ∷ written 3 3 1 ∷ Sends ∷ Takes (BarrierAckFrame 1 1) ∷ []) (two_marked standard)) ≡ 6
      ∷ []
  pub to_the_end : answers (written 3 3 1 ∷ written 6 4 2 ∷ Sends ∷ Takes (BarrierAckFrame 1 2) ∷ Sends ∷ [])
      (after (Writes 3 204 ∷ Writes 6 221 ∷ Local 3 ∷ Local 4 ∷ Sends ∷ Sends ∷ Sends ∷ []) (two_marked standard))
      ≡ with_barrier 1 (completing 3 (frame command.WriteAck)) ∷ completing 4 (frame command.WriteAck) ∷ item command.Barrier 3 ∷ with_sync
      (frame command.BarrierAck) ∷ item command.Uuids 4 ∷ []
  pub local_waits : marks_of (after (Writes 3 204 ∷ Sends ∷ Sends ∷ Sends ∷ written 3 3 1 ∷ Takes (BarrierAckFrame 1 1) ∷ [])
      (two_marked (record standard { max_epoch = 1 }))) ≡ 3 ∷ 6 ∷ []
  pub local_last : marks_of (after (Writes 3 204 ∷ Sends ∷ Sends ∷ Sends ∷ written 3 3 1 ∷ Takes (BarrierAckFrame 1 1) ∷ Local 3 ∷ [])
      (two_marked (record standard { max_epoch = 1 }))) ≡ 6 ∷ []
  pub failed : marks_of (after (Writes 3 204 ∷ Sends ∷ Sends ∷ LocalFails 3 ∷ Sends ∷ written 3 3 1 ∷ Takes (BarrierAckFrame 1 1) ∷ []) (two_marked standard)) ≡
      3 ∷ 6 ∷ []
  pub later : marks_of (after (Writes 3 204 ∷ Local 3 ∷ Sends ∷ Sends ∷ written 3 3 1 ∷ Writes 3 221 ∷ Sends ∷ Takes (BarrierAckFrame 1 1) ∷ [])
      (two_marked standard)) ≡ 3 ∷ 6 ∷ []

-- A hello that is refused closes the end in the same step: the test for a used word comes before the decision.
pub record RefusedHello : Type 0 where
  pub used : slice_get (answers (connecting standard 5 7 (words 9 5 0 0)) (fresh standard (words 1 0 0 0) (replicate 8 false))) 6 ≡ Some
      (Err refusal.UsedIdentifier)
  pub unrelated : slice_get (answers (connecting standard 5 7 (words 20 21 22 23)) (fresh standard (words 1 0 0 0) (replicate 8 false))) 6 ≡ Some
      (Err refusal.Unrelated)
  pub shut : answers (Sends ∷ []) (after (connecting standard 5 7 (words 20 21 22 23)) (fresh standard (words 1 0 0 0) (replicate 8 false))) ≡ Err
      refusal.NotConnected ∷ []
  pub tuple : (after (connecting standard 5 7 (words 20 21 22 23)) (fresh standard (words 1 0 0 0) (replicate 8 false))).tuple ≡ words 1 0 0 0
