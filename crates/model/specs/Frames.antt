-- The frames of a link, as packets, and how a taken frame is read.
use Rattle.std.specs.Prelude.{ℕ, ◌+◌, ◌-◌, Bool, if◌then◌else◌, List, [], ◌∷◌, length, take, Option, Some, None, Result}
use Rattle.blocks.specs.declared.tuple.Tuple.{Tuple}
use Rattle.blocks.specs.declared.settings.Settings.{Settings}
use Rattle.blocks.specs.declared.settings.Protocol.{Protocol}
use Rattle.blocks.specs.declared.refusal.Refusal.{Refusal}
use Rattle.blocks.specs.declared.command.Command.{Command}
use Rattle.blocks.specs.declared.command.Command.TheVariants as command
use Rattle.model.specs.Contents.{Write}
use Rattle.model.specs.Stream.{StreamItem, WriteItem, ResyncItem, BarrierItem, SyncUuidItem, UuidsItem, first_of, number_of, contents_of}

-- What an acknowledgement names: the first block, the number of the write (0 for a resync), how many blocks, the place.
pub record Acknowledged : Type 0 where
  pub first : ℕ
  pub number : ℕ
  pub count : ℕ
  pub place : ℕ

-- a frame's meaning (`drbd_protocol.h`, without the prefix `P_`)
pub data Packet : Type 0 where
  DataFrame : (write : Write) (place : ℕ) → Packet
  RsDataReplyFrame : (block : ℕ) (contents : List ℕ) (place : ℕ) → Packet
  BarrierFrame : (number : ℕ) → Packet
  ProtocolFrame : (protocol : Protocol) → Packet
  UuidsFrame : (tuple : Tuple) → Packet
  SizesFrame : (blocks : ℕ) → Packet
  SyncUuidFrame : (word : ℕ) → Packet
  RecvAckFrame : (of : Acknowledged) → Packet
  WriteAckFrame : (of : Acknowledged) → Packet
  RsWriteAckFrame : (of : Acknowledged) → Packet
  BarrierAckFrame : (number size : ℕ) → Packet

-- A taken frame as it is read: its packet, or the first of the faults 20 to 23 of its bytes.
abbrev pub Received : Type 0
Received = Result Packet Refusal

-- the command of a packet (`drbd_protocol.h`)
abbrev pub command_of : Packet → Command
command_of (DataFrame write place) = command.Data
command_of (RsDataReplyFrame block contents place) = command.RsDataReply
command_of (BarrierFrame number) = command.Barrier
command_of (ProtocolFrame protocol) = command.Protocol
command_of (UuidsFrame tuple) = command.Uuids
command_of (SizesFrame blocks) = command.Sizes
command_of (SyncUuidFrame word) = command.SyncUuid
command_of (RecvAckFrame ack) = command.RecvAck
command_of (WriteAckFrame ack) = command.WriteAck
command_of (RsWriteAckFrame ack) = command.RsWriteAck
command_of (BarrierAckFrame number size) = command.BarrierAck

-- the frame of an item at a place of the stream
abbrev pub frame_of : ℕ → StreamItem → Packet
frame_of place (WriteItem write) = DataFrame write place
frame_of place (ResyncItem block contents) = RsDataReplyFrame block contents place
frame_of place (BarrierItem epoch) = BarrierFrame epoch
frame_of place (SyncUuidItem word) = SyncUuidFrame word
frame_of place (UuidsItem tuple) = UuidsFrame tuple

-- the item that a frame carries, if it carries one
abbrev pub item_of : Packet → Option StreamItem
item_of (DataFrame write place) = Some (WriteItem write)
item_of (RsDataReplyFrame block contents place) = Some (ResyncItem block contents)
item_of (BarrierFrame number) = Some (BarrierItem number)
item_of (SyncUuidFrame word) = Some (SyncUuidItem word)
item_of (UuidsFrame tuple) = Some (UuidsItem tuple)
item_of (ProtocolFrame protocol) = None
item_of (SizesFrame blocks) = None
item_of (RecvAckFrame ack) = None
item_of (WriteAckFrame ack) = None
item_of (RsWriteAckFrame ack) = None
item_of (BarrierAckFrame number size) = None

-- how an acknowledgement names an item
abbrev pub naming : ℕ → StreamItem → Acknowledged
naming place item = record { first = first_of item; number = number_of item; count = length (contents_of item); place = place }

-- The frames taken that count: all, but not the last one if it was refused.
abbrev pub counting : Bool → List Received → List Received
counting refused taken = if refused then take (length taken - 1) taken else taken

-- Each end's hello: its protocol, its size, and its tuple as it was when the end opened.
abbrev pub hello_of : Settings → Tuple → List Packet
hello_of settings tuple = ProtocolFrame settings.protocol ∷ SizesFrame settings.blocks ∷ UuidsFrame tuple ∷ []

-- the frames of these items, the first of them at this place
abbrev pub frames_from : ℕ → List StreamItem → List Packet
frames_from place [] = []
frames_from place (item ∷ items) = frame_of place item ∷ frames_from (place + 1) items

-- the frames of a stream
abbrev pub frames_of : List StreamItem → List Packet
frames_of items = frames_from 0 items
