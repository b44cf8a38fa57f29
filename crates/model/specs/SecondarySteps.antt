-- The local steps of a secondary: for each event its tests in order, its effect, and the acknowledgements that follow.
use Rattle.std.specs.Prelude.{ℕ, zero, suc, ◌+◌, nat_lt, nat_le, ◌==◌, Bool, true, false, ◌&&◌, not, if◌then◌else◌, List, [], ◌∷◌, ◌++◌, length, map, filter}
use Rattle.std.specs.Prelude.{Option, Some, None, is_none, slice_get, Result, Ok, Err}
use Rattle.std.specs.List.{list_any, list_all}
use Rattle.blocks.specs.declared.tuple.Tuple.{Tuple}
use Rattle.blocks.specs.declared.settings.Protocol.{Protocol}
use Rattle.blocks.specs.declared.settings.Protocol.TheVariants as protocol
use Rattle.blocks.specs.declared.refusal.Refusal.{Refusal}
use Rattle.blocks.specs.declared.refusal.Refusal.TheVariants.{NoMemory, LinkFull, NotConnected, NothingThere, UnknownJob, EpochOpen, PendingFull, BadCommand}
use Rattle.blocks.specs.declared.refusal.Refusal.TheVariants.{BadField, OtherProtocol, OtherSize, NotDrained}
use Rattle.blocks.specs.declared.outcome.What.{What}
use Rattle.blocks.specs.declared.outcome.What.TheVariants as what
use Rattle.blocks.specs.declared.outcome.Reply.{Reply}
use Rattle.blocks.specs.declared.outcome.Reply.TheVariants as reply
use Rattle.blocks.specs.declared.command.Command.TheVariants as command
use Rattle.model.specs.Contents.{is_range}
use Rattle.model.specs.Stream.{StreamItem, WriteItem, ResyncItem, number_of, contents_of, epoch_of, last_epoch, epoch_size, items_of_epoch, items_meet}
use Rattle.model.specs.Stream.{barriers_in}
use Rattle.model.specs.Stream.{below, within}
use Rattle.model.specs.Frames.{Packet, DataFrame, RsDataReplyFrame, BarrierFrame, ProtocolFrame, UuidsFrame, SizesFrame, SyncUuidFrame, RecvAckFrame}
use Rattle.model.specs.Frames.{WriteAckFrame, RsWriteAckFrame, BarrierAckFrame, Received, command_of, naming}
use Rattle.model.specs.Refusals.{Test, first_refusal, done_with}
use Rattle.model.specs.Acknowledgements.{same_protocol}
use Rattle.model.specs.Secondary.{SecondaryConnection, SecondaryHistory, new_secondary_connection, secondary_connection, with_secondary_connection}
use Rattle.model.specs.Secondary.{secondary_map, items_taken, pending, is_drained, answers_due, is_applied_to}
use Rattle.model.specs.Secondary.{is_in_resync}

-- What follows an effect in the same step: each barrier taken is acknowledged once all of the epochs up to it are
-- applied.

-- the packet acknowledges this epoch's barrier
abbrev pub is_barrier_answer : ℕ → Packet → Bool
is_barrier_answer epoch (BarrierAckFrame number size) = number == epoch
is_barrier_answer epoch _ = false

-- the barriers taken that are to be acknowledged now, rising
abbrev pub barriers_to_answer : SecondaryConnection → List ℕ
barriers_to_answer c =
    filter (λ epoch. is_applied_to c epoch && not (list_any (is_barrier_answer epoch) c.due)) (map suc (below (barriers_in (items_taken c))))

-- the acknowledgement of an epoch, with the number of its writes
abbrev pub barrier_answer : SecondaryConnection → ℕ → Packet
barrier_answer c epoch = BarrierAckFrame epoch (epoch_size (items_taken c) epoch)

-- Makes those acknowledgements due. After its close an end has nothing more due.
abbrev pub answering : SecondaryConnection → SecondaryConnection
answering c = elim c.closed [ true ↦ c | false ↦ record c { due = c.due ++ map (barrier_answer c) (barriers_to_answer c) } ]

-- a step that succeeds, with the acknowledgements that it makes due
abbrev pub succeeding_secondary : What → SecondaryHistory → Reply × SecondaryHistory
succeeding_secondary done h = (reply.Ok (done_with done), with_secondary_connection answering h)

-- the first test that holds refuses the step, which then changes nothing
abbrev pub tested_secondary : SecondaryHistory → List Test → (Unit {0} → Reply × SecondaryHistory) → Reply × SecondaryHistory
tested_secondary h tests done = elim (first_refusal tests) [ Some refusal ↦ (reply.Refused refusal, h) | None ↦ done tt ]

-- Open.

-- the test of an opening: the last end is closed, and no item is pending
abbrev pub open_secondary_tests : SecondaryHistory → List Test
open_secondary_tests h = (not ((secondary_connection h).closed && is_drained h), NotDrained) ∷ []

-- The number of the next connection: the last one's, plus the connections that the primary opened since and this node
-- never saw, plus one.
abbrev pub next_number : ℕ → SecondaryHistory → ℕ
next_number unseen h = suc ((secondary_connection h).number + unseen)

-- a new connection lies over what the disk holds now
abbrev pub opened_secondary : ℕ → SecondaryHistory → SecondaryHistory
opened_secondary unseen h =
    record h { connections = h.connections ++ new_secondary_connection (next_number unseen h) (secondary_map h) h.tuple ∷ [] }

-- the secondary opens its end, after `unseen` connections of the primary that it never saw
abbrev pub open_secondary : ℕ → SecondaryHistory → Reply × SecondaryHistory
open_secondary unseen h = tested_secondary h (open_secondary_tests h) (λ _. succeeding_secondary what.Nothing (opened_secondary unseen h))

-- Taking a frame.

-- the outcome of taking a frame: its report and the history then, or a protocol error
abbrev pub Checked : Type 0
Checked = Result (What × SecondaryHistory) Refusal

-- takes the next frame of the primary's hello, by how many were taken before
abbrev pub checking_hello : ℕ → Packet → SecondaryHistory → Checked
checking_hello zero (ProtocolFrame asked) h =
    if same_protocol asked h.settings.protocol then Ok (what.Frame command.Protocol None, h) else Err OtherProtocol
checking_hello (suc zero) (SizesFrame blocks) h =
    if blocks == h.settings.blocks then Ok (what.Frame command.Sizes None, h) else Err OtherSize
checking_hello (suc (suc n)) (UuidsFrame peer) h = Ok (what.Frame command.Uuids None, h)
checking_hello n packet h = Err BadCommand

-- the number is above those of all writes that were taken on this connection
abbrev pub is_above : ℕ → List StreamItem → Bool
is_above number items = list_all (λ item. nat_lt (number_of item) number) items

-- the item shares no block with an item of the last epoch
abbrev pub is_apart : StreamItem → List StreamItem → Bool
is_apart item items = not (list_any (λ entry. items_meet entry.1 item) (items_of_epoch items (last_epoch items)))

-- accepts the item if its checks hold, and else refuses it with `BadField`
abbrev pub checked_if : Bool → What → SecondaryHistory → Checked
checked_if good done h = if good then Ok (done, h) else Err BadField

-- the secondary takes over a tuple, and is consistent or not from then on
abbrev pub adopting : Tuple → Bool → SecondaryHistory → SecondaryHistory
adopting tuple consistent h = record h { tuple = tuple; consistent = consistent }

-- Under B a taken write is acknowledged at once.
abbrev pub receiving : ℕ → StreamItem → SecondaryHistory → SecondaryHistory
receiving place item h = elim h.settings.protocol [
  | protocol.A ↦ h
  | protocol.B ↦ with_secondary_connection (λ c. record c { due = c.due ++ RecvAckFrame (naming place item) ∷ [] }) h
  | protocol.C ↦ h
]

-- the number can be a place: a place has 32 bits, and the greatest number of 32 bits is none (this project's rule)
abbrev pub has_place : ℕ → Bool
has_place place = nat_lt place 4294967295

-- Checks an item of the stream on the history before it was taken; `place` is the next place.
abbrev pub checking_item : Packet → ℕ → SecondaryConnection → SecondaryHistory → Checked
checking_item (DataFrame write at) place c h =
    let items = items_taken c in
    checked_if ((((at == place) && has_place place) && is_range h.settings write.first (length write.contents))
    && (is_above write.number items && is_apart (WriteItem write) items))
    (what.Frame command.Data (Some place)) (receiving place (WriteItem write) h)
checking_item (RsDataReplyFrame block contents at) place c h =
    let items = items_taken c in
    checked_if ((((at == place) && has_place place) && is_range h.settings block 1) && (is_in_resync c && is_apart (ResyncItem block contents) items))
    (what.Frame command.RsDataReply (Some place)) h
checking_item (BarrierFrame number) place c h =
    checked_if (has_place place && (number == last_epoch (items_taken c))) (what.Frame command.Barrier (Some place)) h
checking_item (SyncUuidFrame word) place c h =
    checked_if ((has_place place && (place == 0)) && nat_lt 0 word) (what.Frame command.SyncUuid (Some place))
    (adopting (record h.tuple { current = word }) false h)
checking_item (UuidsFrame tuple) place c h =
    checked_if (has_place place && is_in_resync c) (what.Frame command.Uuids (Some place)) (adopting tuple true h)
checking_item packet place c h = Err BadCommand

-- checks a frame: the first three as the hello, all others as items
abbrev pub checking : Received → SecondaryConnection → SecondaryHistory → Checked
checking (Err fault) c h = Err fault
checking (Ok packet) c h =
    elim (nat_lt (length c.taken) 3) [ true ↦ checking_hello (length c.taken) packet h | false ↦ checking_item packet (length (items_taken c)) c h ]

-- Takes a frame, which counts as taken. A protocol error closes the end; its items stay.
abbrev pub take_item : Received → SecondaryHistory → Reply × SecondaryHistory
take_item frame h =
    let taken = with_secondary_connection (λ c. record c { taken = c.taken ++ frame ∷ [] }) h in
    elim (checking frame (secondary_connection h) taken) [
      | Ok done ↦ succeeding_secondary done.0 done.1
      | Err refusal ↦ (reply.Refused refusal, with_secondary_connection (λ c. record c { refused = true; closed = true }) taken)
    ]

-- the tests of `receive`, in order
abbrev pub receive_tests : SecondaryHistory → Option Received → Bool → List Test
receive_tests h frame out_of_memory =
    let c = secondary_connection h in
    (c.closed, NotConnected) ∷ (nat_le h.settings.pending (length (pending c)), PendingFull) ∷ (out_of_memory, NoMemory) ∷ (is_none frame, NothingThere) ∷ []

-- the secondary takes the next frame that the link has for it, if there is one
abbrev pub receive : Option Received → Bool → SecondaryHistory → Reply × SecondaryHistory
receive frame out_of_memory h = tested_secondary h (receive_tests h frame out_of_memory) (λ _. elim frame [
  | None ↦ (reply.Refused NothingThere, h)
  | Some taken ↦ take_item taken h
])

-- The disk.

-- the item at this place is pending
abbrev pub is_pending_at : SecondaryConnection → ℕ → Bool
is_pending_at c place = list_any (λ entry. entry.0 == place) (pending c)

-- an item of an earlier epoch is pending
abbrev pub has_earlier : SecondaryConnection → ℕ → Bool
has_earlier c place = let items = items_taken c in list_any (λ entry. nat_lt (epoch_of items entry.0) (epoch_of items place)) (pending c)

-- the tests of applying an item: it is pending, and every earlier epoch is applied
abbrev pub peer_tests : SecondaryHistory → ℕ → List Test
peer_tests h place = (not (is_pending_at (secondary_connection h) place), UnknownJob) ∷ (has_earlier (secondary_connection h) place, EpochOpen) ∷ []

-- how many blocks the item at a place has
abbrev pub blocks_at : List StreamItem → ℕ → ℕ
blocks_at items place = elim (slice_get items place) [ None ↦ 0 | Some item ↦ length (contents_of item) ]

-- blocks of an item by their offsets, as pairs of its place and an offset
abbrev pub offsets_at : ℕ → List ℕ → List (ℕ × ℕ)
offsets_at place offsets = map (λ offset. (place, offset)) offsets

-- The acknowledgement of an applied item: of a write under C, of a resync item always.
abbrev pub applied_answer : Protocol → ℕ → StreamItem → List Packet
applied_answer asked place (WriteItem write) =
    elim asked [ protocol.A ↦ [] | protocol.B ↦ [] | protocol.C ↦ WriteAckFrame (naming place (WriteItem write)) ∷ [] ]
applied_answer asked place (ResyncItem block contents) = RsWriteAckFrame (naming place (ResyncItem block contents)) ∷ []
applied_answer asked place _ = []

-- records an item as applied; its acknowledgement is due unless the end is closed
abbrev pub applied_with : Option StreamItem → Protocol → ℕ → SecondaryConnection → SecondaryConnection
applied_with found asked place c = elim found [
  | None ↦ c
  | Some item ↦ record c {
    applied = c.applied ++ offsets_at place (below (length (contents_of item)));
    due = elim c.closed [ true ↦ c.due | false ↦ c.due ++ applied_answer asked place item ];
  }
]

-- records the item at this place as applied
abbrev pub applying : Protocol → ℕ → SecondaryConnection → SecondaryConnection
applying asked place c = applied_with (slice_get (items_taken c) place) asked place c

-- the secondary's disk finishes an item
abbrev pub peer : ℕ → SecondaryHistory → Reply × SecondaryHistory
peer place h = tested_secondary h (peer_tests h place)
    (λ _. succeeding_secondary what.Nothing (with_secondary_connection (applying h.settings.protocol place) h))

-- A fault of the disk: these offsets of the item reached it, the end closes, and the pending items of later epochs are
-- dropped.
abbrev pub failing : ℕ → List ℕ → SecondaryConnection → SecondaryConnection
failing place offsets c =
    let items = items_taken c in
    record c {
      applied = c.applied ++ offsets_at place (within (blocks_at items place) offsets);
      gone = c.gone ++ place ∷ map (λ entry. entry.0) (filter (λ entry. nat_lt (epoch_of items place) (epoch_of items entry.0)) (pending c));
      closed = true;
    }

-- the secondary's disk fails an item
abbrev pub peer_fault : ℕ → List ℕ → SecondaryHistory → Reply × SecondaryHistory
peer_fault place offsets h = tested_secondary h (peer_tests h place)
    (λ _. (reply.Ok (done_with what.Nothing), with_secondary_connection (failing place offsets) h))

-- Sending. `room` says whether the link has room.

-- the tests of `ack_out`, in order
abbrev pub ack_out_tests : SecondaryHistory → Bool → Bool → List Test
ack_out_tests h room out_of_memory =
    let c = secondary_connection h in
    (c.closed, NotConnected) ∷ (nat_le (length (answers_due h.settings c)) c.pushed, NothingThere) ∷ (out_of_memory, NoMemory) ∷ (not room, LinkFull) ∷ []

-- the report of the next frame
abbrev pub answering_with : SecondaryHistory → What
answering_with h =
    let c = secondary_connection h in
    elim (slice_get (answers_due h.settings c) c.pushed) [ None ↦ what.Nothing | Some packet ↦ what.Frame (command_of packet) None ]

-- the secondary sends its next due frame, of the hello or an acknowledgement
abbrev pub ack_out : Bool → Bool → SecondaryHistory → Reply × SecondaryHistory
ack_out room out_of_memory h =
    tested_secondary h (ack_out_tests h room out_of_memory)
    (λ _. (reply.Ok (done_with (answering_with h)), with_secondary_connection (λ c. record c { pushed = suc c.pushed }) h))

-- Close: no frame is taken or sent from then on. Items stay pending.
abbrev pub close_secondary : SecondaryHistory → Reply × SecondaryHistory
close_secondary h =
    tested_secondary h (((secondary_connection h).closed, NotConnected) ∷ [])
    (λ _. (reply.Ok (done_with what.Nothing), with_secondary_connection (λ c. record c { closed = true }) h))
