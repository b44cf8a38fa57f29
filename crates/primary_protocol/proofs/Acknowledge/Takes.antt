-- The primary takes a frame.
use Rattle.std.proofs.Common.{ℕ, ◌≡◌, ◌-◌, ◌<◌, Bool, true, false, not, ◌&&◌, ◌||◌, ◌∷◌, length, Option, Some, None, Result, Ok, Err, refl, sym}
use Rattle.std.proofs.Common.{◌∙◌, ap, subst}
use Rattle.std.specs.Prelude.{if◌then◌else◌}
use Rattle.std.proofs.lemmas.Bool.{both_ways, or_parts}
use Rattle.blocks.specs.declared.settings.Settings.{Settings}
use Rattle.blocks.specs.declared.refusal.Refusal.{Refusal}
use Rattle.blocks.specs.declared.refusal.Refusal.TheVariants.{NotConnected, NothingThere, BadCommand, BadBarrierAck}
use Rattle.blocks.specs.declared.outcome.Done.{Done}
use Rattle.blocks.specs.declared.outcome.Reply.{Reply}
use Rattle.blocks.specs.declared.outcome.Reply.TheVariants as reply
use Rattle.blocks.specs.declared.outcome.What.TheVariants as what
use Rattle.blocks.specs.declared.command.Command.TheVariants as command
use Rattle.model.specs.Frames.{Packet, DataFrame, RsDataReplyFrame, BarrierFrame, ProtocolFrame, UuidsFrame, SizesFrame, SyncUuidFrame, RecvAckFrame}
use Rattle.model.specs.Frames.{WriteAckFrame, RsWriteAckFrame, BarrierAckFrame, Received}
use Rattle.model.specs.Marks.{releasing}
use Rattle.model.specs.Primary.{PrimaryHistory, primary_connection, with_primary_connection}
use Rattle.model.specs.PrimarySteps as step
use Rattle.model.specs.Acknowledgements as model
use Rattle.model.specs.Acknowledgements.{is_in_turn}
use Rattle.transferlog.specs.Log.{LogState, may_confirm, confirming}
use Rattle.laws.proofs.Rules.EpochEnds.{TakesWrites, takes-writes}
use Rattle.laws.proofs.Lists.Each.{each-get}
use Rattle.laws.proofs.Primary.Homes.{open-at}
use Rattle.laws.proofs.Releases.InOrderMoves.{Ordered}
use Rattle.laws.proofs.Primary.Moves.{with_frame}
use Rattle.laws.proofs.Primary.Sendable.{HasFitEnds, primary_fit}
use Rattle.primary_protocol.specs.Core as core_state
use Rattle.primary_protocol.specs.Core.{EndState, PrimaryState}
use Rattle.primary_protocol.specs.Transitions.{closing, logged}
use Rattle.primary_protocol.specs.Taking as core
use Rattle.primary_protocol.specs.Taking.{is_unsent, is_in_epoch}
use Rattle.primary_protocol.specs.Leaves.{LeavesEnd, EndLeft, Leaves}
use Rattle.primary_protocol.specs.Steps.{Agrees, IsReached, TakesAgree}
use Rattle.primary_protocol.proofs.Acknowledge.EpochAcknowledged.{confirmed-due}
use Rattle.primary_protocol.proofs.Common.Following.{follow}
use Rattle.primary_protocol.proofs.Common.Reached.{IsOrdered, reached-ordered, from-follow, tested-agrees, refused-agrees, established-same}
use Rattle.primary_protocol.proofs.Close.Refusing.{refused-leaves}
use Rattle.primary_protocol.proofs.Common.NothingFollows.{reached-rests}
use Rattle.primary_protocol.proofs.Acknowledge.Writes.{peer-same, received-agrees, written-agrees}
use Rattle.primary_protocol.proofs.Acknowledge.Blocks.{block-agrees}
use Rattle.primary_protocol.proofs.Connect.Hello.{hello-agrees}
use Rattle.primary_protocol.proofs.Common.TakenAlike.{TakenAlike}
use Rattle.primary_protocol.proofs.Acknowledge.BarrierTurns.{turn-forth, turn-back}
use Rattle.laws.proofs.Rules.Memory.{take-tests-by}
use Rattle.std.proofs.Common.{drop}
use Rattle.blocks.specs.declared.outcome.What.{What}
use Rattle.laws.proofs.Rules.RefusedFrames.{refusing, frame-has}

-- Acknowledgements.

module _ (settings : Settings) (bound : TakesWrites settings) (s : PrimaryState) (h : PrimaryHistory) (e : EndState) (left : Leaves s h)
    (ordered : Ordered settings h) (is : s.end ≡ Some e) (end : LeavesEnd e (primary_connection h)) (begun : (primary_connection h).begun ≡ true)
    (long : 2 < length (primary_connection h).taken) where
  module _ (number size : ℕ) where
    -- the core's answer, by its two tests, and the history's
    abbrev core-by : Bool → Bool → core.Taken
    core-by b d =
        if b then Err (BadBarrierAck, s) else
        let said : Result (Unit {0}) Refusal × LogState = if d then (Ok tt, confirming number size s.log) else (Err BadBarrierAck, s.log) in
        elim said.0 [ Err refusal ↦ Err (refusal, s) | Ok done ↦ Ok (logged (what.Frame command.BarrierAck None) (None, said.1) s) ]

    abbrev model-by : Bool → model.Taken
    model-by b =
        if b then Ok (what.Frame command.BarrierAck None, releasing h (with_primary_connection (with_frame (Ok (BarrierAckFrame number size))) h))
        else Err (BadBarrierAck, with_primary_connection (with_frame (Ok (BarrierAckFrame number size))) h)

    refuse : (got : core.Taken) → got ≡ Err (BadBarrierAck, s) → TakenAlike (Ok (BarrierAckFrame number size)) s h got (model-by false)
    refuse got so = subst (λ x. TakenAlike (Ok (BarrierAckFrame number size)) s h x (model-by false)) (sym so)
        (peer-same (Ok (BarrierAckFrame number size)) s h BadBarrierAck left)

    -- A BARRIER_ACK is taken alike.
    confirms-agree : TakenAlike (Ok (BarrierAckFrame number size)) s h (core.taking_ack (BarrierAckFrame number size) e s)
        (model.taking_ack (BarrierAckFrame number size) h (with_primary_connection (with_frame (Ok (BarrierAckFrame number size))) h))
    confirms-agree = go (is_in_turn h number size) refl
      where
        go : (b : Bool) → is_in_turn h number size ≡ b
            → TakenAlike (Ok (BarrierAckFrame number size)) s h
            (core-by (is_unsent number e.unsent || is_in_epoch number e.under_way) (may_confirm number size s.log)) (model-by (is_in_turn h number size))
        go true turn =
            let back = turn-back settings s h e left ordered end begun number size turn in
            subst (λ b. TakenAlike (Ok (BarrierAckFrame number size)) s h
            (core-by (is_unsent number e.unsent || is_in_epoch number e.under_way) (may_confirm number size s.log)) (model-by b)) (sym turn)
            (subst (λ (x : core.Taken). TakenAlike (Ok (BarrierAckFrame number size)) s h x (model-by true)) (sym (λ i. core-by (back.0 i) (back.1 i)))
            (from-follow _ _ (follow _ _ _ (confirmed-due settings bound s h e left ordered is end begun long number size turn)
            (what.Frame command.BarrierAck None))))
        go false not_so =
            subst (λ b. TakenAlike (Ok (BarrierAckFrame number size)) s h
            (core-by (is_unsent number e.unsent || is_in_epoch number e.under_way) (may_confirm number size s.log)) (model-by b)) (sym not_so)
            (refuse _ (by (is_unsent number e.unsent || is_in_epoch number e.under_way) refl (may_confirm number size s.log) refl))
          where
            by : (b : Bool) → (is_unsent number e.unsent || is_in_epoch number e.under_way) ≡ b → (d : Bool) → may_confirm number size s.log ≡ d
                → core-by b d ≡ Err (BadBarrierAck, s)
            by true early d so = refl
            by false late false so = refl
            by false late true so =
                let parts = or_parts (is_unsent number e.unsent) (is_in_epoch number e.under_way) late in
                absurd (both_ways (is_in_turn h number size) not_so (turn-forth settings s h e left ordered end begun number size parts.0 parts.1 so))

  -- an acknowledgement, or what is none
  acks-agree : (packet : Packet) → TakenAlike (Ok packet) s h (core.taking_ack packet e s)
      (model.taking_ack packet h (with_primary_connection (with_frame (Ok packet)) h))
  acks-agree (RecvAckFrame ack) = received-agrees settings bound s h e left ordered is end begun long ack
  acks-agree (WriteAckFrame ack) = written-agrees settings bound s h e left ordered is end begun long ack
  acks-agree (RsWriteAckFrame ack) = block-agrees settings bound s h e left ordered is end begun long ack
  acks-agree (BarrierAckFrame number size) = confirms-agree number size
  acks-agree (DataFrame write place) = peer-same _ s h BadCommand left
  acks-agree (RsDataReplyFrame block contents place) = peer-same _ s h BadCommand left
  acks-agree (BarrierFrame number) = peer-same _ s h BadCommand left
  acks-agree (ProtocolFrame asked) = peer-same _ s h BadCommand left
  acks-agree (SizesFrame blocks) = peer-same _ s h BadCommand left
  acks-agree (UuidsFrame tuple) = peer-same _ s h BadCommand left
  acks-agree (SyncUuidFrame word) = peer-same _ s h BadCommand left

-- Any frame.

-- once its stream has begun, an open end has taken the whole hello
heard-all : (h : PrimaryHistory) → IsReached h → (primary_connection h).closed ≡ false → (primary_connection h).begun ≡ true
    → 2 < length (primary_connection h).taken
heard-all h r standing begun =
    let fit : HasFitEnds r.settings h =
    subst (HasFitEnds r.settings) r.is (primary_fit r.settings r.disk r.tuple r.marks r.events (takes-writes r.settings r.ranges)) in
    (each-get _ h.connections (length h.connections - 1) (primary_connection h) fit.ends (open-at h standing)).late begun

module _ (s : PrimaryState) (h : PrimaryHistory) (e : EndState) (reached : IsReached h) (left : Leaves s h) (is : s.end ≡ Some e)
    (end : LeavesEnd e (primary_connection h)) where
  known : IsOrdered h
  known = reached-ordered h reached

  taken-alike : (frame : Received) → TakenAlike frame s h (core.taking frame e s) (model.taking frame h (with_primary_connection (with_frame frame) h))
  taken-alike (Err fault) = peer-same _ s h fault left
  taken-alike (Ok packet) = go (primary_connection h).begun refl
    where
      core-by : Bool → core.Taken
      core-by b = if b then core.taking_ack packet e s else core.taking_hello e.hello_received packet (core.hearing e) s

      model-by : Bool → model.Taken
      model-by b = elim b [
        | true ↦ model.taking_ack packet h (with_primary_connection (with_frame (Ok packet)) h)
        | false ↦ model.taking_hello (length (primary_connection h).taken) packet (with_primary_connection (with_frame (Ok packet)) h)
      ]

      established-is : core_state.is_established s ≡ (primary_connection h).begun
      established-is = established-same s h left ∙ λ i. not (end.is_open i) && (primary_connection h).begun

      go : (b : Bool) → (primary_connection h).begun ≡ b
          → TakenAlike (Ok packet) s h (core-by (core_state.is_established s)) (model-by (primary_connection h).begun)
      go true begun =
          subst (λ x. TakenAlike (Ok packet) s h (core-by x) (model-by (primary_connection h).begun)) (sym (established-is ∙ begun))
          (subst (λ x. TakenAlike (Ok packet) s h (core-by true) (model-by x)) (sym begun)
          (acks-agree known.settings known.bound s h e left known.ordered is end begun (heard-all h reached end.is_open begun) packet))
      go false begun =
          subst (λ x. TakenAlike (Ok packet) s h (core-by x) (model-by (primary_connection h).begun)) (sym (established-is ∙ begun))
          (subst (λ x. TakenAlike (Ok packet) s h (core-by false) (model-by x)) (sym begun)
          (hello-agrees known.settings known.bound s h e left known.ordered (reached-rests h reached) is end begun packet))

  -- accepted, or refused with the effects of a close
  frame-agrees : (frame : Received) → Agrees reply.Ok (core.taken_by e (core.taking frame e s)) (model.take_frame frame h)
  frame-agrees frame = frame-has (Agrees reply.Ok (core.taken_by e (core.taking frame e s))) (TakenAlike frame s h (core.taking frame e s)) frame h
      (taken-alike frame) (accepted (core.taking frame e s)) (refused (core.taking frame e s))
    where
      accepted : (got : core.Taken) (done : What × PrimaryHistory) → TakenAlike frame s h got (Ok done)
          → Agrees reply.Ok (core.taken_by e got) (step.succeeding done.0 done.1)
      accepted (Ok got) done alike = alike
      accepted (Err got) done alike = absurd alike

      answer : Refusal × PrimaryHistory → Reply × PrimaryHistory
      answer error = (reply.Refused error.0, (step.follows (step.closing (with_primary_connection refusing error.1))).history)

      refused : (got : core.Taken) (error : Refusal × PrimaryHistory) → TakenAlike frame s h got (Err error)
          → Agrees reply.Ok (core.taken_by e got) (answer error)
      refused (Ok got) error alike = absurd alike
      refused (Err got) error alike =
          subst (λ x. Agrees reply.Ok (Err got.0, (closing e x).1) (answer error)) (sym alike.1.1)
          (subst (λ x. Agrees reply.Ok (Err got.0, (closing e (record s { peer = alike.1.0 })).1) (answer (error.0, x))) (sym alike.1.2) (record {
            reply = ap (λ (r : Refusal). reply.Refused r) alike.0;
            leaves = refused-leaves known.settings known.bound s h e left known.ordered is end frame alike.1.0;
          }))

-- the primary takes a frame
pub takes-agree : TakesAgree
takes-agree frame out_of_memory s h reached left = by-end s.end refl left.rest.end
  where
    core-rest : PrimaryState → Unit {0} → EndState → Result Done Refusal × PrimaryState
    core-rest s _ e = elim frame [
      | None ↦ (Err NothingThere, s)
      | Some taken ↦ core.take_at taken s
    ]

    model-rest : Unit {0} → Reply × PrimaryHistory
    model-rest _ = elim frame [
      | None ↦ (reply.Refused NothingThere, h)
      | Some taken ↦ model.take_frame taken h
    ]

    core-by : Option EndState → Result Done Refusal × PrimaryState
    core-by v = elim v [
      | None ↦ (Err NotConnected, s)
      | Some e ↦ core_state.tested s (core.take_tests frame out_of_memory s) (λ u. core-rest s u e)
    ]

    model-by : Bool → Reply × PrimaryHistory
    model-by closed = step.tested h ((closed, NotConnected) ∷ drop 1 (model.ack_in_tests h frame out_of_memory)) model-rest

    by-end : (v : Option EndState) → s.end ≡ v → EndLeft v (primary_connection h) → Agrees reply.Ok (core-by s.end) (model-by (primary_connection h).closed)
    by-end None none shut = refused-agrees reply.Ok s h NotConnected (core-by s.end) (model-by (primary_connection h).closed) (ap core-by none)
        (ap model-by shut) left
    by-end (Some e) is end =
        subst (λ v. Agrees reply.Ok (core-by v) (model-by (primary_connection h).closed)) (sym is)
        (subst (λ b. Agrees reply.Ok (core-by (Some e)) (model-by b)) (sym end.is_open)
        (tested-agrees reply.Ok s h (core.take_tests frame out_of_memory s) (drop 1 (model.ack_in_tests h frame out_of_memory))
        (λ u. core-rest s u e) model-rest
        (take-tests-by h frame out_of_memory (core_state.is_established s) (established-same s h left
        ∙ λ j. not (end.is_open j) && (primary_connection h).begun)) left
        (λ none. rest frame)))
      where
        answer : Received → Option EndState → Result Done Refusal × PrimaryState
        answer taken v = elim v [ None ↦ (Err NotConnected, s) | Some e ↦ core.taken_by e (core.taking taken e s) ]

        rest : (v : Option Received) → Agrees reply.Ok
            (elim v as (λ _. Result Done Refusal × PrimaryState) [ None ↦ (Err NothingThere, s) | Some taken ↦ core.take_at taken s ])
            (elim v as (λ _. Reply × PrimaryHistory) [ None ↦ (reply.Refused NothingThere, h) | Some taken ↦ model.take_frame taken h ])
        rest None = record { reply = refl; leaves = left }
        rest (Some taken) = subst (λ v. Agrees reply.Ok (answer taken v) (model.take_frame taken h)) (sym is) (frame-agrees s h e reached left is end taken)
