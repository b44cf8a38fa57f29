-- The primary takes a frame: the peer's hello with the decision, and then its acknowledgements.
use Rattle.std.specs.Prelude.{ℕ, zero, suc, nat_lt, ◌==◌, Bool, true, false, ◌&&◌, ◌||◌, not, if◌then◌else◌, List, [], ◌∷◌, ◌++◌, length, take, find, Option}
use Rattle.std.specs.Prelude.{Some, None, is_none, slice_get, Result, Ok, Err}
use Rattle.std.specs.List.{list_all}
use Rattle.blocks.specs.declared.tuple.Tuple.{Tuple}
use Rattle.blocks.specs.declared.settings.Protocol.{Protocol}
use Rattle.blocks.specs.declared.settings.Protocol.TheVariants as protocol
use Rattle.blocks.specs.declared.refusal.Refusal.{Refusal}
use Rattle.blocks.specs.declared.refusal.Refusal.TheVariants.{NoMemory, NotConnected, NothingThere, BadCommand, BadBarrierAck, UnknownAck, UsedIdentifier}
use Rattle.blocks.specs.declared.refusal.Refusal.TheVariants.{OtherProtocol, OtherSize}
use Rattle.blocks.specs.declared.outcome.Decision.{Decision}
use Rattle.blocks.specs.declared.outcome.Decision.TheVariants.{NoSync, BitmapSync, FullSync}
use Rattle.blocks.specs.declared.outcome.What.{What}
use Rattle.blocks.specs.declared.outcome.What.TheVariants as what
use Rattle.blocks.specs.declared.outcome.Reply.{Reply}
use Rattle.blocks.specs.declared.outcome.Reply.TheVariants as reply
use Rattle.blocks.specs.declared.command.Command.TheVariants as command
use Rattle.model.specs.Stream.{StreamItem, WriteItem, ResyncItem, BarrierItem, SyncUuidItem, is_write, epoch_size, items_of_epoch}
use Rattle.model.specs.Frames.{Packet, ProtocolFrame, SizesFrame, UuidsFrame, RecvAckFrame, WriteAckFrame, RsWriteAckFrame, BarrierAckFrame, Acknowledged}
use Rattle.model.specs.Frames.{Received, naming}
use Rattle.model.specs.Identifiers.{stands_in, decision, sync_start}
use Rattle.model.specs.Refusals.{Test}
use Rattle.model.specs.Primary.{PrimaryConnection, PrimaryHistory, primary_connection, with_primary_connection, items_sent, same_naming, was_received}
use Rattle.model.specs.Primary.{was_written, was_resynced}
use Rattle.model.specs.Primary.{barrier_acknowledged, is_resync}
use Rattle.model.specs.Marks.{marking_all, clearing, releasing}
use Rattle.model.specs.PrimarySteps.{follows, succeeding, tested, closing}

-- two protocols are the same
abbrev pub same_protocol : Protocol → Protocol → Bool
same_protocol protocol.A protocol.A = true
same_protocol protocol.B protocol.B = true
same_protocol protocol.C protocol.C = true
same_protocol _ _ = false

-- The outcome of taking a frame: accepted, with its report and the history then, or refused as a protocol error.
abbrev pub Taken : Type 0
Taken = Result (What × PrimaryHistory) (Refusal × PrimaryHistory)

-- The hello.

-- Begins the stream after the decision. A resync begins it with SYNC_UUID and changes the tuple by `sync_start`; a full
-- one marks every block.
abbrev pub begun_with : Decision → PrimaryHistory → PrimaryHistory
begun_with NoSync h = with_primary_connection (λ c. record c { begun = true }) h
begun_with BitmapSync h =
    let word = (primary_connection h).sync in
    with_primary_connection (λ c. record c { begun = true; stream = SyncUuidItem word ∷ [] }) (record h { tuple = sync_start word h.tuple })
begun_with FullSync h =
    let word = (primary_connection h).sync in
    with_primary_connection (λ c. record c { begun = true; stream = SyncUuidItem word ∷ [] })
    (record h { tuple = sync_start word h.tuple; marks = marking_all h.settings.blocks })

-- Takes the peer's tuple, which counts as seen even if the hello is then refused. The connection's two words are tested
-- against it before the decision.
abbrev pub meeting : Tuple → PrimaryHistory → Taken
meeting peer h =
    let seen = record h { peer = Some peer } in
    let c = primary_connection h in
    elim (stands_in c.sync peer || stands_in c.loss peer) [
      | true ↦ Err (UsedIdentifier, seen)
      | false ↦ elim (decision h.tuple peer) [ Err refusal ↦ Err (refusal, seen) | Ok decided ↦ Ok (what.Decided decided, begun_with decided seen) ]
    ]

-- takes the next frame of the hello, by how many were taken before; any other command is refused
abbrev pub taking_hello : ℕ → Packet → PrimaryHistory → Taken
taking_hello zero (ProtocolFrame asked) h =
    if same_protocol asked h.settings.protocol then Ok (what.Frame command.Protocol None, h) else Err (OtherProtocol, h)
taking_hello (suc zero) (SizesFrame blocks) h =
    if blocks == h.settings.blocks then Ok (what.Frame command.Sizes None, h) else Err (OtherSize, h)
taking_hello (suc (suc n)) (UuidsFrame peer) h = meeting peer h
taking_hello n packet h = Err (BadCommand, h)

-- Acknowledgements.

-- the acknowledgement names an item of this kind that was sent
abbrev pub names_sent : (StreamItem → Bool) → Acknowledged → PrimaryConnection → Bool
names_sent kind ack c = elim (slice_get c.stream ack.place) [
  | None ↦ false
  | Some item ↦ (kind item && same_naming (naming ack.place item) ack) && nat_lt ack.place (items_sent c)
]

-- the item at its place was acknowledged before
abbrev pub was_named : (PrimaryConnection → ℕ → StreamItem → Bool) → Acknowledged → PrimaryConnection → Bool
was_named before ack c = elim (slice_get c.stream ack.place) [ None ↦ false | Some item ↦ before c ack.place item ]

-- the connection's protocol is this one
abbrev pub is_protocol : Protocol → PrimaryHistory → Bool
is_protocol asked h = same_protocol asked h.settings.protocol

-- the peer has sent the acknowledgement that the protocol asks for an item, if it asks for one
abbrev pub is_acknowledged : Protocol → PrimaryConnection → ℕ × StreamItem → Bool
is_acknowledged asked c (place, WriteItem write) = elim asked [
  | protocol.A ↦ true
  | protocol.B ↦ was_received c place (WriteItem write)
  | protocol.C ↦ was_written c place (WriteItem write)
]
is_acknowledged asked c (place, ResyncItem block contents) = was_resynced c place (ResyncItem block contents)
is_acknowledged asked c _ = true

-- the item is a barrier that the peer has not acknowledged
abbrev pub is_unacknowledged : PrimaryConnection → StreamItem → Bool
is_unacknowledged c (BarrierItem epoch) = not (barrier_acknowledged c epoch)
is_unacknowledged c _ = false

-- the first barrier sent that the peer has not acknowledged
abbrev pub oldest_barrier : PrimaryConnection → Option StreamItem
oldest_barrier c = find (is_unacknowledged c) (take (items_sent c) c.stream)

-- the item is the barrier of this epoch
abbrev pub is_barrier_of : ℕ → Option StreamItem → Bool
is_barrier_of number (Some (BarrierItem epoch)) = number == epoch
is_barrier_of number _ = false

-- A BARRIER_ACK is in turn: it names the oldest unacknowledged barrier, has the epoch's size, and comes after every
-- acknowledgement that the epoch's items need.
abbrev pub is_in_turn : PrimaryHistory → ℕ → ℕ → Bool
is_in_turn h number size =
    let c = primary_connection h in
    (is_barrier_of number (oldest_barrier c) && (size == epoch_size c.stream number))
    && list_all (is_acknowledged h.settings.protocol c) (items_of_epoch c.stream number)

-- Takes an acknowledgement, tested on the history before it was taken.
abbrev pub taking_ack : Packet → PrimaryHistory → PrimaryHistory → Taken
taking_ack (RecvAckFrame ack) before h =
    let c = primary_connection before in
    if (is_protocol protocol.B before && names_sent is_write ack c) && not (was_named was_received ack c) then Ok (what.Frame command.RecvAck None, h)
    else Err (UnknownAck, h)
taking_ack (WriteAckFrame ack) before h =
    let c = primary_connection before in
    if (is_protocol protocol.C before && names_sent is_write ack c) && not (was_named was_written ack c) then Ok (what.Frame command.WriteAck None, h)
    else Err (UnknownAck, h)
taking_ack (RsWriteAckFrame ack) before h =
    let c = primary_connection before in
    if names_sent is_resync ack c && not (was_named was_resynced ack c)
    then Ok (what.Frame command.RsWriteAck None, record h { marks = clearing ack.first h.marks }) else Err (UnknownAck, h)
taking_ack (BarrierAckFrame number size) before h =
    if is_in_turn before number size then Ok (what.Frame command.BarrierAck None, releasing before h) else Err (BadBarrierAck, h)
taking_ack packet before h = Err (BadCommand, h)

-- Takes a frame as it was read: refuses a fault of its bytes, and takes a frame of the hello or an acknowledgement.
abbrev pub taking : Received → PrimaryHistory → PrimaryHistory → Taken
taking (Err fault) before h = Err (fault, h)
taking (Ok packet) before h =
    elim (primary_connection before).begun [ true ↦ taking_ack packet before h | false ↦ taking_hello (length (primary_connection before).taken) packet h ]

-- Records the frame as taken and takes it. A protocol error closes the end in the same step, with all effects of a
-- close.
abbrev pub take_frame : Received → PrimaryHistory → Reply × PrimaryHistory
take_frame frame h =
    let taken = with_primary_connection (λ c. record c { taken = c.taken ++ frame ∷ [] }) h in
    elim (taking frame h taken) [
      | Ok done ↦ succeeding done.0 done.1
      | Err error ↦ (reply.Refused error.0, (follows (closing (with_primary_connection (λ c. record c { refused = true }) error.1))).history)
    ]

-- the tests of `ack_in`, in order
abbrev pub ack_in_tests : PrimaryHistory → Option Received → Bool → List Test
ack_in_tests h frame out_of_memory =
    let c = primary_connection h in
    (c.closed, NotConnected) ∷ (not c.begun && out_of_memory, NoMemory) ∷ (is_none frame, NothingThere) ∷ []

-- the primary takes the next frame that the link has for it, if there is one
abbrev pub ack_in : Option Received → Bool → PrimaryHistory → Reply × PrimaryHistory
ack_in frame out_of_memory h = tested h (ack_in_tests h frame out_of_memory) (λ _. elim frame [
  | None ↦ (reply.Refused NothingThere, h)
  | Some taken ↦ take_frame taken h
])
