-- A primary takes a frame: the peer's hello with the decision, and then its acknowledgements.
use Rattle.std.specs.Prelude.{ℕ, zero, suc, ◌-◌, nat_lt, ◌==◌, Bool, true, false, ◌&&◌, ◌||◌, not, if◌then◌else◌, List, [], ◌∷◌, Option, Some, None, is_none}
use Rattle.std.specs.Prelude.{set, Result, Ok, Err}
use Rattle.std.specs.List.{list_any}
use Rattle.blocks.specs.declared.tuple.Tuple.{Tuple}
use Rattle.blocks.specs.declared.refusal.Refusal.{Refusal}
use Rattle.blocks.specs.declared.refusal.Refusal.TheVariants.{NoMemory, NotConnected, NothingThere, BadCommand, BadBarrierAck, UnknownAck, UsedIdentifier}
use Rattle.blocks.specs.declared.refusal.Refusal.TheVariants.{OtherProtocol, OtherSize}
use Rattle.blocks.specs.declared.outcome.Done.{Done}
use Rattle.blocks.specs.declared.outcome.Decision.{Decision}
use Rattle.blocks.specs.declared.outcome.Decision.TheVariants.{NoSync, BitmapSync, FullSync}
use Rattle.blocks.specs.declared.outcome.What.{What}
use Rattle.blocks.specs.declared.outcome.What.TheVariants as what
use Rattle.blocks.specs.declared.command.Command.TheVariants as command
use Rattle.blocks.specs.Identifiers.{stands_in, decision, sync_start}
use Rattle.model.specs.Stream.{StreamItem, BarrierItem, SyncUuidItem}
use Rattle.model.specs.Frames.{Packet, ProtocolFrame, SizesFrame, UuidsFrame, RecvAckFrame, WriteAckFrame, RsWriteAckFrame, BarrierAckFrame, Acknowledged}
use Rattle.model.specs.Frames.{Received}
use Rattle.model.specs.Refusals.{Test, done_with}
use Rattle.model.specs.Acknowledgements.{same_protocol}
use Rattle.transferlog.specs.Log as log
use Rattle.transferlog.specs.Log.{LogState, connecting}
use Rattle.transferlog.specs.declared.report.PeerAck.{PeerAck}
use Rattle.transferlog.specs.declared.report.PeerAck.TheVariants as answer
use Rattle.transferlog.specs.declared.report.AckedWrite.{AckedWrite}
use Rattle.overlap.specs.Holdings as overlap
use Rattle.bitmap.specs.Marks.{marking}
use Rattle.primary_protocol.specs.Core.{UnderWay, EndState, PrimaryState, tested, is_established, following}
use Rattle.primary_protocol.specs.Transitions.{next_place, closing, logged}

-- The outcome of taking a frame: accepted, with its report and the state then, or refused as a protocol error, with the
-- state before the end closes.
abbrev pub Taken : Type 0
Taken = Result (Done × PrimaryState) (Refusal × PrimaryState)

-- The hello.

-- the index of the last connection, from 0
abbrev pub last_connection : PrimaryState → ℕ
last_connection s = s.connections - 1

-- counts another taken frame of the peer's hello, up to 3
abbrev pub hearing : EndState → EndState
hearing e = record e { hello_received = if nat_lt e.hello_received 3 then suc e.hello_received else e.hello_received }

-- begins the stream with a resync, and marks these blocks too
abbrev pub syncing : (ℕ → Bool) → EndState → PrimaryState → PrimaryState
syncing such e s = record s {
  tuple = sync_start e.sync s.tuple;
  marks = marking such s.marks;
  log = (log.uuids_placed (connecting (last_connection s) s.log)).1;
  end = Some (record e { unsent = SyncUuidItem e.sync ∷ []; resync = true });
}

-- Begins the stream after the decision: with SYNC_UUID if that is a resync.
abbrev pub begun_with : Decision → EndState → PrimaryState → PrimaryState
begun_with NoSync e s = record s { log = connecting (last_connection s) s.log; end = Some e }
begun_with BitmapSync e s = syncing (λ block. false) e s
begun_with FullSync e s = syncing (λ block. true) e s

-- Takes the peer's tuple, which counts as seen even if the hello is then refused. The connection's two words are tested
-- against it before the decision.
abbrev pub meeting : Tuple → EndState → PrimaryState → Taken
meeting peer e s =
    let seen = record s { peer = Some peer } in
    elim (stands_in e.sync peer || stands_in e.loss peer) [
      | true ↦ Err (UsedIdentifier, seen)
      | false ↦ elim (decision s.tuple peer)
          [ Err refusal ↦ Err (refusal, seen) | Ok decided ↦ Ok (following (what.Decided decided) None (begun_with decided e seen)) ]
    ]

-- accepts a frame of the hello if it fits, and else refuses it
abbrev pub greeted : Bool → What → Refusal → EndState → PrimaryState → Taken
greeted good name refusal e s = if good then Ok (done_with name, record s { end = Some e }) else Err (refusal, s)

-- takes the next frame of the hello, by how many frames were taken before; any other command is refused
abbrev pub taking_hello : ℕ → Packet → EndState → PrimaryState → Taken
taking_hello zero (ProtocolFrame asked) e s = greeted (same_protocol asked s.settings.protocol) (what.Frame command.Protocol None) OtherProtocol e s
taking_hello (suc zero) (SizesFrame blocks) e s = greeted (blocks == s.settings.blocks) (what.Frame command.Sizes None) OtherSize e s
taking_hello (suc (suc n)) (UuidsFrame peer) e s = meeting peer e s
taking_hello n packet e s = Err (BadCommand, s)

-- Acknowledgements.

-- what an acknowledgement names, as the log takes it
abbrev pub named : Acknowledged → AckedWrite
named ack = record { number = ack.number; place = ack.place; first = ack.first; count = ack.count }

-- the peer answers a write
abbrev pub answered : What → PeerAck → Acknowledged → PrimaryState → Taken
answered name kind ack s =
    let result = log.acked kind (named ack) s.log in
    elim result.0 [ Err refusal ↦ Err (refusal, s) | Ok barrier ↦ Ok (logged name (barrier, result.1) s) ]

-- the acknowledgement names the block under way, which was sent
abbrev pub names_block : Acknowledged → ℕ → Option UnderWay → Bool
names_block ack sent None = false
names_block ack sent (Some way) = (((ack.first == way.block) && (ack.number == 0)) && ((ack.count == 1) && (ack.place == way.place))) && nat_lt way.place sent

-- clears the block's mark and ends its transfer
abbrev pub without_block : ℕ → EndState → PrimaryState → PrimaryState
without_block block e s = record s {
  marks = set s.marks block false;
  held = overlap.without 0 s.held;
  end = Some (record e { under_way = None });
}

-- the peer acknowledges the block under way
abbrev pub resynced : ℕ → EndState → PrimaryState → Done × PrimaryState
resynced block e s =
    let after = log.resync_acked s.log in
    following (what.Frame command.RsWriteAck None) after.0 (without_block block e (record s { log = after.1 }))

-- this barrier waits to be sent
abbrev pub is_unsent : ℕ → List StreamItem → Bool
is_unsent number unsent = list_any (λ item. elim item as (λ _. Bool) [ BarrierItem epoch ↦ epoch == number | _ ↦ false ]) unsent

-- the block under way is of this epoch
abbrev pub is_in_epoch : ℕ → Option UnderWay → Bool
is_in_epoch number None = false
is_in_epoch number (Some way) = way.epoch == number

-- the peer acknowledges an epoch; its barrier must be sent, and the block under way must not be of it
abbrev pub confirmed : ℕ → ℕ → EndState → PrimaryState → Taken
confirmed number size e s =
    if is_unsent number e.unsent || is_in_epoch number e.under_way then Err (BadBarrierAck, s) else
    let result = log.barrier_acked number size s.log in
    elim result.0 [ Err refusal ↦ Err (refusal, s) | Ok done ↦ Ok (logged (what.Frame command.BarrierAck None) (None, result.1) s) ]

-- takes an acknowledgement
abbrev pub taking_ack : Packet → EndState → PrimaryState → Taken
taking_ack (RecvAckFrame ack) e s = answered (what.Frame command.RecvAck None) answer.Received ack s
taking_ack (WriteAckFrame ack) e s = answered (what.Frame command.WriteAck None) answer.Written ack s
taking_ack (RsWriteAckFrame ack) e s = if names_block ack (next_place e s) e.under_way then Ok (resynced ack.first e s) else Err (UnknownAck, s)
taking_ack (BarrierAckFrame number size) e s = confirmed number size e s
taking_ack packet e s = Err (BadCommand, s)

-- Takes a frame as it was read: refuses a fault of its bytes, and takes a frame of the hello or an acknowledgement.
abbrev pub taking : Received → EndState → PrimaryState → Taken
taking (Err fault) e s = Err (fault, s)
taking (Ok packet) e s = if is_established s then taking_ack packet e s else taking_hello e.hello_received packet (hearing e) s

-- the result of a taken frame; a protocol error closes the end in the same step, with all effects of its close
abbrev pub taken_by : EndState → Taken → Result Done Refusal × PrimaryState
taken_by e (Ok done) = (Ok done.0, done.1)
taken_by e (Err error) = (Err error.0, (closing e error.1).1)

-- takes a frame, if the end is open
abbrev pub take_at : Received → PrimaryState → Result Done Refusal × PrimaryState
take_at frame s = elim s.end [ None ↦ (Err NotConnected, s) | Some e ↦ taken_by e (taking frame e s) ]

-- the tests of `ack_in` at an open end, in order
abbrev pub take_tests : Option Received → Bool → PrimaryState → List Test
take_tests frame out_of_memory s = (not (is_established s) && out_of_memory, NoMemory) ∷ (is_none frame, NothingThere) ∷ []

-- the primary takes the next frame that the link has for it, if there is one
abbrev pub ack_in : Option Received → Bool → PrimaryState → Result Done Refusal × PrimaryState
ack_in frame out_of_memory s = elim s.end [
  | None ↦ (Err NotConnected, s)
  | Some e ↦ tested s (take_tests frame out_of_memory s) (λ _. elim frame [
    | None ↦ (Err NothingThere, s)
    | Some taken ↦ take_at taken s
  ])
]
