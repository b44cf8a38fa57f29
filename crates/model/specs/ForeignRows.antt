-- Worked examples of frames that the other end of a link never sends.
use Rattle.std.specs.Prelude.{ℕ, ◌≡◌, true, false, List, [], ◌∷◌, ◌++◌, replicate, Some, Ok, Err, map}
use Rattle.blocks.specs.declared.settings.Protocol.TheVariants as protocol
use Rattle.blocks.specs.declared.refusal.Refusal.TheVariants as refusal
use Rattle.blocks.specs.declared.outcome.Reply.{Reply}
use Rattle.blocks.specs.declared.command.Command.TheVariants as command
use Rattle.blocks.specs.SettingsRange.{standard}
use Rattle.model.specs.Primary.{PrimaryHistory, primary_connection}
use Rattle.model.specs.Pair.{SendEvent, ReceiveEvent, PairHistory}
use Rattle.model.specs.Rows.{words, connected, after, fill, refused, done, frame}
use Rattle.model.specs.Contents.{Write}
use Rattle.model.specs.Frames.{DataFrame, RsDataReplyFrame, BarrierFrame, ProtocolFrame, UuidsFrame, SyncUuidFrame, RecvAckFrame, WriteAckFrame}
use Rattle.model.specs.Frames.{RsWriteAckFrame, BarrierAckFrame, Acknowledged, Received}
use Rattle.model.specs.Acknowledgements.{ack_in}
use Rattle.model.specs.Secondary.{SecondaryHistory}
use Rattle.model.specs.SecondarySteps.{receive, peer}
use Rattle.model.specs.WriteRows.{one_write, semisynchronous}

-- a write of `count` blocks of one byte
abbrev pub write_of : ℕ → ℕ → ℕ → Write
write_of number first count = record { number = number; first = first; contents = replicate count (170 ∷ []) }

-- an acknowledgement by its four fields
abbrev pub ack_of : ℕ → ℕ → ℕ → ℕ → Acknowledged
ack_of first number count place = record { first = first; number = number; count = count; place = place }

-- a secondary that took the first write, and a primary that sent it
abbrev pub sent_one : PairHistory
sent_one = after (fill 2 1 170 ∷ SendEvent ∷ ReceiveEvent ∷ []) (connected standard)

-- a secondary's reply to a frame
abbrev pub answer_of : Received → SecondaryHistory → Reply
answer_of frame h = (receive (Some frame) false h).0

-- frames that a secondary refuses after the first write
abbrev pub to_secondary : List Received
to_secondary =
    Ok (DataFrame (write_of 2 3 1) 2) ∷ Ok (DataFrame (write_of 2 2 1) 1) ∷ Ok (DataFrame (write_of 1 3 1) 1) ∷ Ok (DataFrame (write_of 2 7 2) 1)
    ∷ Ok (BarrierFrame 2) ∷ Ok (SyncUuidFrame 9) ∷ Ok (UuidsFrame (words 7 0 9 1)) ∷ Ok (RsDataReplyFrame 3 (170 ∷ []) 1)
    ∷ Ok (ProtocolFrame protocol.C) ∷ Ok (WriteAckFrame (ack_of 2 1 1 0)) ∷ Err refusal.BadLength ∷ []

-- the secondary that took the first write, after another frame
abbrev pub secondary_after : Received → SecondaryHistory
secondary_after frame = (receive (Some frame) false sent_one.secondary).1

-- The secondary refuses each of these frames, which no honest peer sends, and closes its end. It can still apply what
-- it took.
pub record ToSecondary : Type 0 where
  pub answers : map (λ frame. answer_of frame sent_one.secondary) to_secondary
      ≡ replicate 8 (refused refusal.BadField) ++ refused refusal.BadCommand ∷ refused refusal.BadCommand ∷ refused refusal.BadLength ∷ []
  pub closed : map (λ frame. answer_of frame (secondary_after frame)) to_secondary ≡ replicate 11 (refused refusal.NotConnected)
  pub applies : map (λ frame. (peer 0 (secondary_after frame)).0) to_secondary ≡ replicate 11 done

-- acknowledgements that the primary did not ask for, and a write
abbrev pub to_primary : List Received
to_primary =
    Ok (WriteAckFrame (ack_of 2 2 1 0)) ∷ Ok (WriteAckFrame (ack_of 2 1 1 1)) ∷ Ok (WriteAckFrame (ack_of 2 1 2 0)) ∷ Ok (RecvAckFrame (ack_of 2 1 1 0))
    ∷ Ok (RsWriteAckFrame (ack_of 3 0 1 1)) ∷ Ok (BarrierAckFrame 1 1) ∷ Ok (DataFrame (write_of 1 2 1) 0) ∷ []

-- a primary's reply to a frame
abbrev pub reply_of : Received → PrimaryHistory → Reply
reply_of frame h = (ack_in (Some frame) false h).0

-- a primary after a frame
abbrev pub primary_after : Received → PrimaryHistory → PrimaryHistory
primary_after frame h = (ack_in (Some frame) false h).1

-- a primary that has sent a write and the barrier that ends its epoch
abbrev pub sent_with_barrier : PrimaryHistory
sent_with_barrier = (after (fill 2 1 170 ∷ SendEvent ∷ SendEvent ∷ []) (connected (record standard { max_epoch = 1 }))).primary

-- The primary refuses each of these frames, which no honest peer sends, and closes its end. A BARRIER_ACK that comes
-- before its write's acknowledgement is refused too.
pub record ToPrimary : Type 0 where
  pub answers : map (λ frame. reply_of frame sent_one.primary) to_primary
      ≡ replicate 5 (refused refusal.UnknownAck) ++ refused refusal.BadBarrierAck ∷ refused refusal.BadCommand ∷ []
  pub closed : map (λ frame. reply_of frame (primary_after frame sent_one.primary)) to_primary ≡ replicate 7 (refused refusal.NotConnected)
  pub marks : map (λ frame. (primary_after frame sent_one.primary).marks 2) to_primary ≡ replicate 7 true
  pub identifiers : map (λ frame. (primary_after frame sent_one.primary).tuple) to_primary ≡ replicate 7 (words 7 1 0 0)
  pub too_early : reply_of (Ok (BarrierAckFrame 1 1)) sent_with_barrier ≡ refused refusal.BadBarrierAck

-- a primary with a completed write whose barrier was sent
abbrev pub completed_one : PrimaryHistory
completed_one = (after (one_write ++ SendEvent ∷ []) (connected standard)).primary

-- A BARRIER_ACK with a wrong size, or a second acknowledgement of the write, is refused and closes the end.
pub record AfterOneWrite : Type 0 where
  pub wrong_size : reply_of (Ok (BarrierAckFrame 1 2)) completed_one ≡ refused refusal.BadBarrierAck
  pub repeated : reply_of (Ok (WriteAckFrame (ack_of 2 1 1 0))) completed_one ≡ refused refusal.UnknownAck
  pub marks : (primary_after (Ok (BarrierAckFrame 1 2)) completed_one).marks 2 ≡ true
  pub closed : (primary_connection (primary_after (Ok (BarrierAckFrame 1 2)) completed_one)).closed ≡ true
  pub identifiers : (primary_after (Ok (BarrierAckFrame 1 2)) completed_one).tuple ≡ words 7 1 0 0
  pub marks_too : (primary_after (Ok (WriteAckFrame (ack_of 2 1 1 0))) completed_one).marks 2 ≡ true
  pub identifiers_too : (primary_after (Ok (WriteAckFrame (ack_of 2 1 1 0))) completed_one).tuple ≡ words 7 1 0 0

-- under protocol B, a primary that sent a write
abbrev pub received_one : PrimaryHistory
received_one = (after (fill 2 1 170 ∷ SendEvent ∷ []) (connected semisynchronous)).primary

-- The RECV_ACK of a place is taken once: a second one is refused, and closes the end.
pub record AcknowledgedOnce : Type 0 where
  pub first : reply_of (Ok (RecvAckFrame (ack_of 2 1 1 0))) received_one ≡ frame command.RecvAck
  pub second : reply_of (Ok (RecvAckFrame (ack_of 2 1 1 0))) (primary_after (Ok (RecvAckFrame (ack_of 2 1 1 0))) received_one) ≡ refused refusal.UnknownAck
  pub closed : (primary_connection
      (primary_after (Ok (RecvAckFrame (ack_of 2 1 1 0))) (primary_after (Ok (RecvAckFrame (ack_of 2 1 1 0))) received_one))).closed ≡ true
  pub marks : (primary_after (Ok (RecvAckFrame (ack_of 2 1 1 0))) (primary_after (Ok (RecvAckFrame (ack_of 2 1 1 0))) received_one)).marks 2 ≡ true
  pub identifiers : (primary_after (Ok (RecvAckFrame (ack_of 2 1 1 0))) (primary_after (Ok (RecvAckFrame (ack_of 2 1 1 0))) received_one)).tuple ≡ words 7 1 0 0
