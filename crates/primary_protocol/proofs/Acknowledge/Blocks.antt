-- The peer has the block that a resync has under way.
use Rattle.std.proofs.Common.{◌≡◌, ◌<◌, Bool, true, false, not, ◌&&◌, length, Some, None, Ok, Err, refl, sym, ◌∙◌, ap, subst}
use Rattle.std.specs.Prelude.{if◌then◌else◌}
use Rattle.blocks.specs.declared.settings.Settings.{Settings}
use Rattle.blocks.specs.declared.refusal.Refusal.TheVariants.{UnknownAck}
use Rattle.blocks.specs.declared.outcome.What.TheVariants as what
use Rattle.blocks.specs.declared.command.Command.TheVariants as command
use Rattle.model.specs.Frames.{RsWriteAckFrame, Acknowledged}
use Rattle.model.specs.Marks.{clearing}
use Rattle.model.specs.Primary.{PrimaryHistory, primary_connection, with_primary_connection, items_sent, is_resync, was_resynced}
use Rattle.model.specs.Acknowledgements as model
use Rattle.model.specs.Acknowledgements.{names_sent, was_named}
use Rattle.laws.proofs.Rules.EpochEnds.{TakesWrites}
use Rattle.laws.proofs.Releases.InOrderMoves.{Ordered}
use Rattle.laws.proofs.Primary.Moves.{with_frame}
use Rattle.primary_protocol.specs.Core.{EndState, PrimaryState}
use Rattle.primary_protocol.specs.Taking as core
use Rattle.primary_protocol.specs.Taking.{names_block, resynced}
use Rattle.primary_protocol.specs.Transitions.{next_place}
use Rattle.primary_protocol.specs.Leaves.{LeavesEnd, Leaves}
use Rattle.primary_protocol.proofs.Acknowledge.BlockAcknowledged.{cleared-due}
use Rattle.primary_protocol.proofs.Common.Following.{follow}
use Rattle.primary_protocol.proofs.Common.Reached.{from-follow}
use Rattle.primary_protocol.proofs.Acknowledge.AwaitedBlock.{named-block, awaits-block}
use Rattle.primary_protocol.proofs.Send.Due.{place-is}
use Rattle.primary_protocol.proofs.Acknowledge.Writes.{peer-same}
use Rattle.primary_protocol.proofs.Common.TakenAlike.{TakenAlike}

module _ (settings : Settings) (bound : TakesWrites settings) (s : PrimaryState) (h : PrimaryHistory) (e : EndState) (left : Leaves s h)
    (ordered : Ordered settings h) (is : s.end ≡ Some e) (end : LeavesEnd e (primary_connection h)) (begun : (primary_connection h).begun ≡ true)
    (long : 2 < length (primary_connection h).taken) (ack : Acknowledged) where
  -- the core's answer, by whether the end awaits it, and the history's
  abbrev core-by : Bool → core.Taken
  core-by b = if b then Ok (resynced ack.first e s) else Err (UnknownAck, s)

  abbrev model-by : Bool → model.Taken
  model-by b =
      if b then Ok (
        what.Frame command.RsWriteAck None,
        record (with_primary_connection (with_frame (Ok (RsWriteAckFrame ack))) h) { marks = clearing ack.first h.marks },
      )
      else Err (UnknownAck, with_primary_connection (with_frame (Ok (RsWriteAckFrame ack))) h)

  -- both judge it alike
  sent-same : names_block ack (next_place e s) e.under_way ≡ names_block ack (items_sent (primary_connection h)) e.under_way
  sent-same = ap (λ n. names_block ack n e.under_way) (place-is s h e left ordered.1.1.0.0 end)

  judged-same : names_block ack (next_place e s) e.under_way ≡
      (names_sent is_resync ack (primary_connection h) && not (was_named was_resynced ack (primary_connection h)))
  judged-same = sent-same ∙ awaits-block e.under_way (primary_connection h) ack end.under_way

  -- An RS_WRITE_ACK is taken alike.
  pub block-agrees : TakenAlike (Ok (RsWriteAckFrame ack)) s h (core.taking_ack (RsWriteAckFrame ack) e s)
      (model.taking_ack (RsWriteAckFrame ack) h (with_primary_connection (with_frame (Ok (RsWriteAckFrame ack))) h))
  block-agrees =
      subst (λ b. TakenAlike (Ok (RsWriteAckFrame ack)) s h (core-by (names_block ack (next_place e s) e.under_way)) (model-by b)) judged-same
      (go (names_block ack (next_place e s) e.under_way) refl)
    where
      go : (b : Bool) → names_block ack (next_place e s) e.under_way ≡ b → TakenAlike (Ok (RsWriteAckFrame ack)) s h (core-by b) (model-by b)
      go true so =
          from-follow _ _ (follow _ _ _ (cleared-due settings bound s h e left ordered end begun long ack
          (named-block e.under_way (primary_connection h) ack end.under_way (sym sent-same ∙ so))) (what.Frame command.RsWriteAck None))
      go false so = peer-same (Ok (RsWriteAckFrame ack)) s h UnknownAck left
