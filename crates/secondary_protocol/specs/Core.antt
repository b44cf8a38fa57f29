-- The state of a secondary in plain values, and its transitions.
use Rattle.std.specs.Prelude.{ℕ, zero, suc, ◌+◌, ◌-◌, nat_lt, nat_le, ◌==◌, Bool, true, false, ◌&&◌, ◌||◌, not, if◌then◌else◌, List, [], ◌∷◌, ◌++◌, length}
use Rattle.std.specs.Prelude.{drop, Option, Some, None, is_some, is_none, option_map, slice_get, ok_or, Result, Ok, Err}
use Rattle.blocks.specs.declared.tuple.Tuple.{Tuple}
use Rattle.blocks.specs.declared.settings.Settings.{Settings}
use Rattle.blocks.specs.declared.settings.Protocol.{Protocol}
use Rattle.blocks.specs.declared.settings.Protocol.TheVariants as protocol
use Rattle.blocks.specs.declared.refusal.Refusal.{Refusal}
use Rattle.blocks.specs.declared.refusal.Refusal.TheVariants.{NotConnected, NothingThere, PendingFull, NotDrained, NoMemory, LinkFull, BadCommand, BadField}
use Rattle.blocks.specs.declared.refusal.Refusal.TheVariants.{OtherProtocol, OtherSize}
use Rattle.blocks.specs.declared.outcome.Done.{Done}
use Rattle.blocks.specs.declared.outcome.What.{What}
use Rattle.blocks.specs.declared.outcome.What.TheVariants as what
use Rattle.blocks.specs.declared.command.Command.TheVariants as command
use Rattle.model.specs.Contents.{is_range}
use Rattle.model.specs.Stream.{StreamItem, WriteItem, ResyncItem, BarrierItem, SyncUuidItem, UuidsItem, first_of, contents_of}
use Rattle.model.specs.Frames.{Packet, DataFrame, RsDataReplyFrame, BarrierFrame, ProtocolFrame, UuidsFrame, SizesFrame, SyncUuidFrame, RecvAckFrame}
use Rattle.model.specs.Frames.{BarrierAckFrame, Received, command_of, hello_of, naming}
use Rattle.model.specs.Refusals.{Test, first_refusal, done_with}
use Rattle.model.specs.Acknowledgements.{same_protocol}
use Rattle.model.specs.SecondarySteps.{applied_answer, has_place}
use Rattle.peerdisk.specs.Pending.{Pending, without, after_fault, epoch_at, item_at}
use Rattle.peerdisk.specs.Pending as peerdisk
use Rattle.peerdisk.specs.Blocks.{none_of, adding, has_any}

-- Receive-side state of the connection's stream: how many items were taken, the highest write number, how many
-- barriers; how many writes the last epoch has, and which blocks its items cover; and whether a resync is running.
pub record Intake : Type 0 where
  pub places : ℕ
  pub highest : ℕ
  pub barriers : ℕ
  pub writes : ℕ
  pub blocks : List Bool
  pub resync : Bool

-- An open end: the tuple that its hello names, how many frames of the peer's hello were taken and of its own pushed (3
-- at most), the acknowledgements that are due and not pushed, how many of the epochs that a barrier ended are
-- acknowledged or have their acknowledgement due, and the sizes of the others.
pub record EndState : Type 0 where
  pub hello : Tuple
  pub hello_received : ℕ
  pub hello_sent : ℕ
  pub due : List Packet
  pub answered : ℕ
  pub sizes : List ℕ

-- A secondary: its settings, its identifiers and whether it is consistent, the number of its last connection, the
-- receive-side state of that one's stream, the pending items, how many of the stream's items are applied (one that
-- failed is not), the epoch of an item that the disk failed, and its end if that is open.
pub record SecondaryState : Type 0 where
  pub settings : Settings
  pub tuple : Tuple
  pub consistent : Bool
  pub number : ℕ
  pub intake : Intake
  pub pending : List (Pending StreamItem)
  pub items_applied : ℕ
  pub failed : Option ℕ
  pub end : Option EndState

-- the receive-side state of a stream without an item, for a device of `size` blocks
abbrev pub nothing_taken : ℕ → Intake
nothing_taken size = record { places = 0; highest = 0; barriers = 0; writes = 0; blocks = none_of size; resync = false }

-- a secondary that was never opened
abbrev pub fresh : Settings → Tuple → SecondaryState
fresh settings tuple = record {
  settings = settings;
  tuple = tuple;
  consistent = not (tuple.current == 0);
  number = 0;
  intake = nothing_taken settings.blocks;
  pending = [];
  items_applied = 0;
  failed = None;
  end = None;
}

-- A step that its tests refuse leaves the state as it is; otherwise `done` is its outcome.
abbrev pub tested : {R : Type 0} → SecondaryState → List Test → (Unit {0} → Result R Refusal × SecondaryState) → Result R Refusal × SecondaryState
tested s tests done = elim (first_refusal tests) [ Some refusal ↦ (Err refusal, s) | None ↦ done tt ]

-- Open.

-- an end that has just been opened
abbrev pub opened_end : Tuple → EndState
opened_end tuple = record { hello = tuple; hello_received = 0; hello_sent = 0; due = []; answered = 0; sizes = [] }

-- begins the connection of this number
abbrev pub opened : ℕ → SecondaryState → SecondaryState
opened number s = record s { number = number; intake = nothing_taken s.settings.blocks; items_applied = 0; failed = None; end = Some (opened_end s.tuple) }

-- the test of an opening: the end is closed, and no item is pending
abbrev pub open_tests : SecondaryState → List Test
open_tests s = (is_some s.end || nat_lt 0 (length s.pending), NotDrained) ∷ []

-- the secondary opens its end
abbrev pub open_end : ℕ → SecondaryState → Result (Unit {0}) Refusal × SecondaryState
open_end number s = tested s (open_tests s) (λ _. (Ok tt, opened number s))

-- Acknowledging.

-- every item up to the end of an epoch is applied: the first pending one is of a later epoch
abbrev pub is_applied_to : List (Pending StreamItem) → ℕ → Bool
is_applied_to [] epoch = true
is_applied_to (p ∷ pending) epoch = nat_lt epoch p.epoch

-- the acknowledgements of the epochs after this one, as far as they are applied
abbrev pub answers : List (Pending StreamItem) → ℕ → List ℕ → List Packet
answers pending epoch [] = []
answers pending epoch (size ∷ sizes) = if is_applied_to pending (suc epoch) then BarrierAckFrame (suc epoch) size ∷ answers pending (suc epoch) sizes else []

-- Makes each taken barrier's acknowledgement due, once all of the epochs up to it are applied.
abbrev pub answering : List (Pending StreamItem) → EndState → EndState
answering pending e =
    let new = answers pending e.answered e.sizes in
    record e { due = e.due ++ new; answered = e.answered + length new; sizes = drop (length new) e.sizes }

-- what follows in each step: an open end acknowledges what it can
abbrev pub follows : SecondaryState → SecondaryState
follows s = record s { end = option_map (answering s.pending) s.end }

-- Taking a frame.

-- the tests of taking a frame: the end is open, and not too many items are pending
abbrev pub take_tests : SecondaryState → List Test
take_tests s = (is_none s.end, NotConnected) ∷ (nat_le s.settings.pending (length s.pending), PendingFull) ∷ []

-- whether a frame may be taken, or why not
abbrev pub may_take : SecondaryState → Result (Unit {0}) Refusal
may_take s = elim (first_refusal (take_tests s)) [ Some refusal ↦ Err refusal | None ↦ Ok tt ]

-- counts an item, and adds its blocks to those of the last epoch
abbrev pub with_blocks : StreamItem → Intake → Intake
with_blocks item i = record i { places = suc i.places; blocks = adding (first_of item) (length (contents_of item)) i.blocks }

-- the receive-side state after another item
abbrev pub and_item : StreamItem → Intake → Intake
and_item (WriteItem write) i = record (with_blocks (WriteItem write) i) { highest = write.number; writes = suc i.writes }
and_item (ResyncItem block contents) i = with_blocks (ResyncItem block contents) i
and_item (BarrierItem epoch) i = record i { places = suc i.places; barriers = suc i.barriers; writes = 0; blocks = none_of (length i.blocks) }
and_item (SyncUuidItem word) i = record i { places = suc i.places; resync = true }
and_item (UuidsItem tuple) i = record i { places = suc i.places; resync = false }

-- the pending items, with another one of the last epoch
abbrev pub waiting : StreamItem → SecondaryState → List (Pending StreamItem)
waiting item s = s.pending ++ record { place = s.intake.places; epoch = suc s.intake.barriers; item = item } ∷ []

-- the acknowledgement of a taken write, which B asks for
abbrev pub receipt : Protocol → ℕ → StreamItem → List Packet
receipt protocol.A place item = []
receipt protocol.B place item = RecvAckFrame (naming place item) ∷ []
receipt protocol.C place item = []

-- makes acknowledgements due
abbrev pub owing : List Packet → EndState → EndState
owing packets e = record e { due = e.due ++ packets }

-- none of these blocks is one of the last epoch's
abbrev pub is_apart : ℕ → ℕ → Intake → Bool
is_apart first count i = not (has_any first count i.blocks)

-- The outcome of checking a frame: its report and the state before what follows, or a protocol error.
abbrev pub Judged : Type 0
Judged = Result (What × SecondaryState) Refusal

-- accepts the frame if its checks hold, and else refuses it with `BadField`
abbrev pub judged_if : Bool → What → SecondaryState → Judged
judged_if good name s = if good then Ok (name, s) else Err BadField

-- checks the next frame of the primary's hello, by how many were taken before
abbrev pub judging_hello : ℕ → Packet → SecondaryState → Judged
judging_hello zero (ProtocolFrame asked) s =
    if same_protocol asked s.settings.protocol then Ok (what.Frame command.Protocol None, s) else Err OtherProtocol
judging_hello (suc zero) (SizesFrame blocks) s =
    if blocks == s.settings.blocks then Ok (what.Frame command.Sizes None, s) else Err OtherSize
judging_hello (suc (suc n)) (UuidsFrame peer) s = Ok (what.Frame command.Uuids None, s)
judging_hello n packet s = Err BadCommand

-- checks an item of the stream at the next place, and takes it
abbrev pub judging_item : Packet → EndState → SecondaryState → Judged
judging_item (DataFrame write at) e s =
    let i = s.intake in
    let count = length write.contents in
    judged_if ((((at == i.places) && has_place i.places) && is_range s.settings write.first count)
    && (((i.places == 0) || nat_lt i.highest write.number) && is_apart write.first count i))
    (what.Frame command.Data (Some i.places)) (record s {
      intake = and_item (WriteItem write) i;
      pending = waiting (WriteItem write) s;
      end = Some (owing (receipt s.settings.protocol i.places (WriteItem write)) e);
    })
judging_item (RsDataReplyFrame block contents at) e s =
    let i = s.intake in
    judged_if ((((at == i.places) && has_place i.places) && is_range s.settings block 1) && (i.resync && is_apart block 1 i))
    (what.Frame command.RsDataReply (Some i.places))
    (record s { intake = and_item (ResyncItem block contents) i; pending = waiting (ResyncItem block contents) s })
judging_item (BarrierFrame number) e s =
    let i = s.intake in
    judged_if (has_place i.places && (number == suc i.barriers)) (what.Frame command.Barrier (Some i.places))
    (record s { intake = and_item (BarrierItem number) i; end = Some (record e { sizes = e.sizes ++ i.writes ∷ [] }) })
judging_item (SyncUuidFrame word) e s =
    let i = s.intake in
    judged_if ((has_place i.places && (i.places == 0)) && nat_lt 0 word) (what.Frame command.SyncUuid (Some i.places))
    (record s { intake = and_item (SyncUuidItem word) i; tuple = record s.tuple { current = word }; consistent = false })
judging_item (UuidsFrame tuple) e s =
    let i = s.intake in
    judged_if (has_place i.places && i.resync) (what.Frame command.Uuids (Some i.places))
    (record s { intake = and_item (UuidsItem tuple) i; tuple = tuple; consistent = true })
judging_item packet e s = Err BadCommand

-- counts another taken frame of the peer's hello, up to 3
abbrev pub hearing : EndState → EndState
hearing e = record e { hello_received = if nat_lt e.hello_received 3 then suc e.hello_received else e.hello_received }

-- checks a frame: the first three as the hello, all others as items
abbrev pub judging : Received → EndState → SecondaryState → Judged
judging (Err fault) e s = Err fault
judging (Ok packet) e s =
    let t = record s { end = Some (hearing e) } in
    if nat_lt e.hello_received 3 then judging_hello e.hello_received packet t else judging_item packet (hearing e) t

-- The result of a checked frame. A protocol error closes the end; its items stay.
abbrev pub taking : Judged → SecondaryState → Result Done Refusal × SecondaryState
taking (Ok done) s = (Ok (done_with done.0), follows done.1)
taking (Err refusal) s = (Err refusal, record s { end = None })

-- takes a frame at an open end
abbrev pub take_frame : Received → EndState → SecondaryState → Result Done Refusal × SecondaryState
take_frame frame e s = taking (judging frame e s) s

-- takes a frame, if the end is open; a closed end refuses it
abbrev pub take_at : Received → Option EndState → SecondaryState → Result Done Refusal × SecondaryState
take_at frame None s = (Err NotConnected, s)
take_at frame (Some e) s = take_frame frame e s

-- the tests of `receive`, in order
abbrev pub receive_tests : Option Received → Bool → SecondaryState → List Test
receive_tests frame out_of_memory s =
    (is_none s.end, NotConnected) ∷ (nat_le s.settings.pending (length s.pending), PendingFull) ∷ (out_of_memory, NoMemory) ∷ (is_none frame, NothingThere) ∷ []

-- the secondary takes the next frame that the link has for it, if there is one
abbrev pub receive : Option Received → Bool → SecondaryState → Result Done Refusal × SecondaryState
receive frame out_of_memory s = tested s (receive_tests frame out_of_memory s) (λ _. elim frame [
  | None ↦ (Err NothingThere, s)
  | Some taken ↦ take_at taken s.end s
])

-- The disk.

-- the item of a place that may be applied now, or why it may not
abbrev pub start : ℕ → SecondaryState → Result StreamItem Refusal
start place s = peerdisk.start place s.pending

-- the acknowledgements of an item that is applied, if there is one
abbrev pub answers_of : Protocol → ℕ → Option StreamItem → List Packet
answers_of asked place None = []
answers_of asked place (Some item) = applied_answer asked place item

-- records that the disk has the item at this place
abbrev pub applied : ℕ → SecondaryState → SecondaryState
applied place s =
    follows (record s {
      pending = without place s.pending;
      items_applied = suc s.items_applied;
      end = option_map (owing (answers_of s.settings.protocol place (item_at place s.pending))) s.end;
    })

-- records that the disk failed the item at this place: closes the end, and drops the pending items of later epochs
abbrev pub failing : ℕ → SecondaryState → SecondaryState
failing place s = record s { pending = after_fault place s.pending; failed = Some (epoch_at place s.pending); end = None }

-- the secondary's disk finishes an item
abbrev pub peer : ℕ → SecondaryState → Result (Unit {0}) Refusal × SecondaryState
peer place s = elim (start place s) [ Err refusal ↦ (Err refusal, s) | Ok item ↦ (Ok tt, applied place s) ]

-- the secondary's disk fails an item
abbrev pub peer_fault : ℕ → SecondaryState → Result (Unit {0}) Refusal × SecondaryState
peer_fault place s = elim (start place s) [ Err refusal ↦ (Err refusal, s) | Ok item ↦ (Ok tt, failing place s) ]

-- Sending.

-- the next frame that an open end is to send: of its hello, and then of its acknowledgements
abbrev pub owed : Settings → EndState → Option Packet
owed settings e = if nat_lt e.hello_sent 3 then slice_get (hello_of settings e.hello) e.hello_sent else slice_get e.due 0

-- the next frame that is due, or why there is none
abbrev pub due : SecondaryState → Result Packet Refusal
due s = elim s.end [ None ↦ Err NotConnected | Some e ↦ ok_or (owed s.settings e) NothingThere ]

-- counts a pushed frame of the hello, or takes a pushed acknowledgement from the due ones
abbrev pub pushing : EndState → EndState
pushing e = if nat_lt e.hello_sent 3 then record e { hello_sent = suc e.hello_sent } else record e { due = drop 1 e.due }

-- records that the due frame was pushed
abbrev pub sent : SecondaryState → SecondaryState
sent s = record s { end = option_map pushing s.end }

-- the tests of pushing a due frame, in order
abbrev pub sent_tests : Bool → Bool → List Test
sent_tests room out_of_memory = (out_of_memory, NoMemory) ∷ (not room, LinkFull) ∷ []

-- Sends an acknowledgement or a frame of the hello. `room` says whether the link has room.
abbrev pub ack_out : Bool → Bool → SecondaryState → Result Done Refusal × SecondaryState
ack_out room out_of_memory s = elim (due s) [
  | Err refusal ↦ (Err refusal, s)
  | Ok packet ↦ tested s (sent_tests room out_of_memory) (λ _. (Ok (done_with (what.Frame (command_of packet) None)), sent s))
]

-- Closing.

-- closes the end; its items stay
abbrev pub close_end : SecondaryState → Result (Unit {0}) Refusal × SecondaryState
close_end s = tested s ((is_none s.end, NotConnected) ∷ []) (λ _. (Ok tt, record s { end = None }))

-- Read-only values.

-- the last epoch up to whose end every item is applied, and none of them failed
abbrev pub whole : SecondaryState → ℕ
whole s = elim s.failed [ Some epoch ↦ epoch - 1 | None ↦ elim s.pending [ [] ↦ s.intake.barriers | p ∷ pending ↦ p.epoch - 1 ] ]
