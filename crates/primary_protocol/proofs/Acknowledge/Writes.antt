-- The peer answers a write.
use Rattle.std.proofs.Common.{ℕ, ◌≡◌, ◌<◌, ◌≤◌, Bool, true, false, not, ◌&&◌, ◌||◌, length, Option, Some, None, Result, Ok, Err, refl, sym, ◌∙◌, ap, subst}
use Rattle.std.proofs.Common.{arith, ◌==◌}
use Rattle.std.proofs.Math.Bool.{or-false}
use Rattle.std.specs.Prelude.{if◌then◌else◌}
use Rattle.std.proofs.lemmas.Bool.{eqb-true, false_from_ne_true}
use Rattle.std.proofs.lemmas.Option.{slice_get_within}
use Rattle.blocks.specs.declared.settings.Settings.{Settings}
use Rattle.blocks.specs.declared.settings.Protocol.{Protocol}
use Rattle.blocks.specs.declared.settings.Protocol.TheVariants as protocol
use Rattle.blocks.specs.declared.refusal.Refusal.{Refusal}
use Rattle.blocks.specs.declared.refusal.Refusal.TheVariants.{UnknownAck}
use Rattle.blocks.specs.declared.outcome.What.{What}
use Rattle.blocks.specs.declared.outcome.What.TheVariants as what
use Rattle.blocks.specs.declared.command.Command.TheVariants as command
use Rattle.model.specs.Stream.{StreamItem, WriteItem, is_write}
use Rattle.model.specs.Frames.{RecvAckFrame, WriteAckFrame, Acknowledged, Received, naming}
use Rattle.model.specs.Primary.{PrimaryConnection, PrimaryHistory, primary_connection, with_primary_connection, is_established, is_rs_write_ack, is_barrier_ack}
use Rattle.model.specs.Primary.{is_answered_by, was_received, was_written, was_resynced, barrier_acknowledged}
use Rattle.model.specs.Acknowledgements as model
use Rattle.model.specs.Acknowledgements.{names_sent, was_named, same_protocol}
use Rattle.transferlog.specs.Log.{LogState, changing, awaits_in, is_asked}
use Rattle.transferlog.specs.Ring.{write_at}
use Rattle.transferlog.specs.Writes as writes
use Rattle.transferlog.specs.declared.report.PeerAck.TheVariants as answer
use Rattle.laws.proofs.Rules.EpochEnds.{TakesWrites}
use Rattle.laws.proofs.Releases.InOrderMoves.{Ordered, in-order-kept}
use Rattle.laws.proofs.Primary.Moves.{with_frame}
use Rattle.primary_protocol.specs.Core.{EndState, PrimaryState}
use Rattle.primary_protocol.specs.Transitions as transition
use Rattle.primary_protocol.specs.Taking as core
use Rattle.primary_protocol.specs.Taking.{named}
use Rattle.primary_protocol.specs.Leaves.{LeavesEnd, Leaves}
use Rattle.primary_protocol.proofs.Acknowledge.WriteAnswered.{any-frame, answered-due}
use Rattle.primary_protocol.proofs.Acknowledge.AwaitedWrite.{Names, names, awaits-same}
use Rattle.primary_protocol.proofs.Common.Following.{follow}
use Rattle.primary_protocol.proofs.Acknowledge.AcceptedFrame.{NamesNone, end-framed, way-framed, other-place}
use Rattle.primary_protocol.proofs.Common.Reached.{from-follow}
use Rattle.primary_protocol.proofs.Common.TakenAlike.{TakenAlike}
use Rattle.primary_protocol.proofs.Acknowledge.WriteAnswered.{frames-more}
use Rattle.laws.proofs.Primary.Ends.{frames-taking}
use Rattle.laws.proofs.Rules.Answered.{answered-more, answered-receipt, answered-written}

-- what nobody changed
pub peer-same : (frame : Received) (s : PrimaryState) (h : PrimaryHistory) (refusal : Refusal) → Leaves s h
    → TakenAlike frame s h (Err (refusal, s)) (Err (refusal, with_primary_connection (with_frame frame) h))
peer-same frame s h refusal left = (refl, (s.peer, refl, λ i. record (with_primary_connection (with_frame frame) h) { peer = sym left.rest.peer i }))

-- what was answered stays so
mono : (c : PrimaryConnection) (frame : Received) → c.refused ≡ false → (asked : Protocol) (place : ℕ) (item : StreamItem)
    → is_answered_by asked c place item ≡ true
    → is_answered_by asked (with_frame frame c) place item ≡ true
mono c frame plain asked place item so = answered-more asked c (with_frame frame c) place item (omega arith) (frames-taking c frame plain) so

module _ (settings : Settings) (bound : TakesWrites settings) (s : PrimaryState) (h : PrimaryHistory) (e : EndState) (left : Leaves s h)
    (ordered : Ordered settings h) (is : s.end ≡ Some e) (end : LeavesEnd e (primary_connection h)) (begun : (primary_connection h).begun ≡ true)
    (long : 2 < length (primary_connection h).taken) (ack : Acknowledged) where
  on : is_established (primary_connection h) ≡ true
  on = λ i. not (end.is_open i) && begun i

  -- an item to come has another place
  later-place : Names h ack → (place : ℕ) → length (primary_connection h).stream ≤ place → (place == ack.place) ≡ false
  later-place n place later = false_from_ne_true (place == ack.place) (λ same. let is_it = eqb-true place ack.place same in let within =
      slice_get_within (primary_connection h).stream ack.place (WriteItem n.accepted.write) n.there in omega arith)

  -- A RECV_ACK.
  received-names : Names h ack → NamesNone (primary_connection h) (Ok (RecvAckFrame ack))
  received-names n = record {
    received = λ place item later. other-place ack place item (later-place n place later);
    written = λ place item later. refl;
    resynced = λ place item later. refl;
  }

  -- A WRITE_ACK.
  written-names : Names h ack → NamesNone (primary_connection h) (Ok (WriteAckFrame ack))
  written-names n = record {
    received = λ place item later. refl;
    written = λ place item later. other-place ack place item (later-place n place later);
    resynced = λ place item later. refl;
  }

  same-barrier : (frame : Received) → ((epoch : ℕ) → is_barrier_ack epoch frame ≡ false) → (epoch : ℕ)
      → barrier_acknowledged (with_frame frame (primary_connection h)) epoch ≡ barrier_acknowledged (primary_connection h) epoch
  same-barrier frame none epoch = any-frame (is_barrier_ack epoch) (primary_connection h) frame end.plain
      ∙ (ap (λ b. barrier_acknowledged (primary_connection h) epoch || b) (none epoch) ∙ or-false (barrier_acknowledged (primary_connection h) epoch))

  same-block : (frame : Received) → ((of : Acknowledged) → is_rs_write_ack of frame ≡ false) → (place : ℕ) (item : StreamItem)
      → was_resynced (with_frame frame (primary_connection h)) place item ≡ was_resynced (primary_connection h) place item
  same-block frame none place item = any-frame (is_rs_write_ack (naming place item)) (primary_connection h) frame end.plain
      ∙ (ap (λ b. was_resynced (primary_connection h) place item || b) (none (naming place item)) ∙ or-false (was_resynced (primary_connection h) place item))

  -- what is awaited
  abbrev waits : Bool
  waits = awaits_in (write_at ack.number s.log.writes) (named ack)

  -- the core's answer, by whether the log takes it, and the history's
  abbrev core-by : What → Bool → core.Taken
  core-by name b =
      let said : Result (Option ℕ) Refusal × LogState = if b
      then (Ok (changing ack.number writes.answering s.log).0, (changing ack.number writes.answering s.log).1) else (Err UnknownAck, s.log) in
      elim said.0 [ Err refusal ↦ Err (refusal, s) | Ok barrier ↦ Ok (transition.logged name (barrier, said.1) s) ]

  abbrev model-by : What → PrimaryHistory → Bool → model.Taken
  model-by name g b = if b then Ok (name, g) else Err (UnknownAck, g)

  -- neither takes it
  refuse : (frame : Received) (name : What) (b d : Bool) → b ≡ false → d ≡ false
      → TakenAlike frame s h (core-by name b) (model-by name (with_primary_connection (with_frame frame) h) d)
  refuse frame name b d nb nd =
      subst (λ b. TakenAlike frame s h (core-by name b) (model-by name (with_primary_connection (with_frame frame) h) d)) (sym nb)
      (subst (λ d. TakenAlike frame s h (core-by name false) (model-by name (with_primary_connection (with_frame frame) h) d)) (sym nd)
      (peer-same frame s h UnknownAck left))

  -- Under B, a RECV_ACK.
  received-taken : h.settings.protocol ≡ protocol.B → names_sent is_write ack (primary_connection h) ≡ true
      → was_named was_received ack (primary_connection h) ≡ false
      → TakenAlike (Ok (RecvAckFrame ack)) s h (core-by (what.Frame command.RecvAck None) true)
      (model-by (what.Frame command.RecvAck None) (with_primary_connection (with_frame (Ok (RecvAckFrame ack))) h) true)
  received-taken asked named_so unnamed =
      let n = names s h left ordered.1.1.0.0 ordered.1.0 on ack named_so in
      from-follow _ _ (follow _ _ _ (answered-due settings s h e ack (Ok (RecvAckFrame ack)) left ordered
      ((in-order-kept settings bound).receives h ack end.is_open begun (record { names = named_so; first = unnamed }) ordered) on n is
      (end-framed e (primary_connection h) (Ok (RecvAckFrame ack)) e.under_way end begun long (received-names n)
      (way-framed e.under_way (primary_connection h) (Ok (RecvAckFrame ack)) (same-block (Ok (RecvAckFrame ack)) (λ of. refl)) end.under_way))
      (λ place item. answered-receipt h.settings.protocol (primary_connection h) (with_frame (Ok (RecvAckFrame ack)) (primary_connection h)) ack place item
      asked
      (frames-more (primary_connection h) (Ok (RecvAckFrame ack)) end.plain))
      (mono (primary_connection h) (Ok (RecvAckFrame ack)) end.plain) (same-barrier (Ok (RecvAckFrame ack)) (λ epoch. refl))
      (same-block (Ok (RecvAckFrame ack)) (λ of. refl))) (what.Frame command.RecvAck None))

  pub received-agrees : TakenAlike (Ok (RecvAckFrame ack)) s h (core.taking_ack (RecvAckFrame ack) e s)
      (model.taking_ack (RecvAckFrame ack) h (with_primary_connection (with_frame (Ok (RecvAckFrame ack))) h))
  received-agrees = go h.settings.protocol refl
    where
      name : What
      name = what.Frame command.RecvAck None

      core-test : Protocol → Bool → Bool
      core-test p b = is_asked p answer.Received && b

      model-test : Protocol → Bool
      model-test p = (same_protocol protocol.B p && names_sent is_write ack (primary_connection h)) && not (was_named was_received ack (primary_connection h))

      go : (p : Protocol) → h.settings.protocol ≡ p
          → TakenAlike (Ok (RecvAckFrame ack)) s h (core-by (what.Frame command.RecvAck None) (core-test s.log.protocol waits))
          (model-by (what.Frame command.RecvAck None) (with_primary_connection (with_frame (Ok (RecvAckFrame ack))) h) (model-test h.settings.protocol))
      go protocol.A asked = refuse (Ok (RecvAckFrame ack)) name (core-test s.log.protocol waits) (model-test h.settings.protocol)
          (ap (λ p. core-test p waits) (left.rest.log.protocol ∙ asked)) (ap model-test asked)
      go protocol.C asked = refuse (Ok (RecvAckFrame ack)) name (core-test s.log.protocol waits) (model-test h.settings.protocol)
          (ap (λ p. core-test p waits) (left.rest.log.protocol ∙ asked)) (ap model-test asked)
      go protocol.B asked = by-wait (names_sent is_write ack (primary_connection h)) refl (was_named was_received ack (primary_connection h)) refl
        where
          awaited : core-test s.log.protocol waits ≡ (names_sent is_write ack (primary_connection h) && not (was_named was_received ack (primary_connection h)))
          awaited = ap (λ p. core-test p waits) (left.rest.log.protocol ∙ asked)
              ∙ (awaits-same s h left ordered.1.1.0.0 ordered.1.0 on ack
              ∙ ap (λ (p : Protocol). names_sent is_write ack (primary_connection h) && not (was_named (is_answered_by p) ack (primary_connection h))) asked)

          by-wait : (b : Bool) → names_sent is_write ack (primary_connection h) ≡ b → (d : Bool) → was_named was_received ack (primary_connection h) ≡ d
              → TakenAlike (Ok (RecvAckFrame ack)) s h (core-by (what.Frame command.RecvAck None) (core-test s.log.protocol waits))
              (model-by (what.Frame command.RecvAck None) (with_primary_connection (with_frame (Ok (RecvAckFrame ack))) h) (model-test h.settings.protocol))
          by-wait true named_so false unnamed =
              subst (λ b. TakenAlike (Ok (RecvAckFrame ack)) s h (core-by (what.Frame command.RecvAck None) b)
              (model-by (what.Frame command.RecvAck None) (with_primary_connection (with_frame (Ok (RecvAckFrame ack))) h) (model-test h.settings.protocol)))
              (sym (awaited ∙ λ i. named_so i && not (unnamed i)))
              (subst (λ b. TakenAlike (Ok (RecvAckFrame ack)) s h (core-by (what.Frame command.RecvAck None) true)
              (model-by (what.Frame command.RecvAck None) (with_primary_connection (with_frame (Ok (RecvAckFrame ack))) h) b))
              (sym (ap model-test asked ∙ λ i. named_so i && not (unnamed i)))
              (received-taken asked named_so unnamed))
          by-wait true named_so true again = refuse (Ok (RecvAckFrame ack)) name (core-test s.log.protocol waits) (model-test h.settings.protocol) (awaited
              ∙ λ i. named_so i && not (again i)) (ap model-test asked ∙ λ i. named_so i && not (again i))
          by-wait false none d so = refuse (Ok (RecvAckFrame ack)) name (core-test s.log.protocol waits) (model-test h.settings.protocol) (awaited
              ∙ λ i. none i && not (was_named was_received ack (primary_connection h))) (ap model-test asked
              ∙ λ i. none i && not (was_named was_received ack (primary_connection h)))

  -- Under C, a WRITE_ACK.
  written-taken : h.settings.protocol ≡ protocol.C → names_sent is_write ack (primary_connection h) ≡ true
      → was_named was_written ack (primary_connection h) ≡ false
      → TakenAlike (Ok (WriteAckFrame ack)) s h (core-by (what.Frame command.WriteAck None) true)
      (model-by (what.Frame command.WriteAck None) (with_primary_connection (with_frame (Ok (WriteAckFrame ack))) h) true)
  written-taken asked named_so unnamed =
      let n = names s h left ordered.1.1.0.0 ordered.1.0 on ack named_so in
      from-follow _ _ (follow _ _ _ (answered-due settings s h e ack (Ok (WriteAckFrame ack)) left ordered
      ((in-order-kept settings bound).applies h ack end.is_open begun (record { names = named_so; first = unnamed }) ordered) on n is
      (end-framed e (primary_connection h) (Ok (WriteAckFrame ack)) e.under_way end begun long (written-names n)
      (way-framed e.under_way (primary_connection h) (Ok (WriteAckFrame ack)) (same-block (Ok (WriteAckFrame ack)) (λ of. refl)) end.under_way))
      (λ place item. answered-written h.settings.protocol (primary_connection h) (with_frame (Ok (WriteAckFrame ack)) (primary_connection h)) ack place item
      asked
      (frames-more (primary_connection h) (Ok (WriteAckFrame ack)) end.plain))
      (mono (primary_connection h) (Ok (WriteAckFrame ack)) end.plain) (same-barrier (Ok (WriteAckFrame ack)) (λ epoch. refl))
      (same-block (Ok (WriteAckFrame ack)) (λ of. refl))) (what.Frame command.WriteAck None))

  pub written-agrees : TakenAlike (Ok (WriteAckFrame ack)) s h (core.taking_ack (WriteAckFrame ack) e s)
      (model.taking_ack (WriteAckFrame ack) h (with_primary_connection (with_frame (Ok (WriteAckFrame ack))) h))
  written-agrees = go h.settings.protocol refl
    where
      name : What
      name = what.Frame command.WriteAck None

      core-test : Protocol → Bool → Bool
      core-test p b = is_asked p answer.Written && b

      model-test : Protocol → Bool
      model-test p = (same_protocol protocol.C p && names_sent is_write ack (primary_connection h)) && not (was_named was_written ack (primary_connection h))

      go : (p : Protocol) → h.settings.protocol ≡ p
          → TakenAlike (Ok (WriteAckFrame ack)) s h (core-by (what.Frame command.WriteAck None) (core-test s.log.protocol waits))
          (model-by (what.Frame command.WriteAck None) (with_primary_connection (with_frame (Ok (WriteAckFrame ack))) h) (model-test h.settings.protocol))
      go protocol.A asked = refuse (Ok (WriteAckFrame ack)) name (core-test s.log.protocol waits) (model-test h.settings.protocol)
          (ap (λ p. core-test p waits) (left.rest.log.protocol ∙ asked)) (ap model-test asked)
      go protocol.B asked = refuse (Ok (WriteAckFrame ack)) name (core-test s.log.protocol waits) (model-test h.settings.protocol)
          (ap (λ p. core-test p waits) (left.rest.log.protocol ∙ asked)) (ap model-test asked)
      go protocol.C asked = by-wait (names_sent is_write ack (primary_connection h)) refl (was_named was_written ack (primary_connection h)) refl
        where
          awaited : core-test s.log.protocol waits ≡ (names_sent is_write ack (primary_connection h) && not (was_named was_written ack (primary_connection h)))
          awaited = ap (λ p. core-test p waits) (left.rest.log.protocol ∙ asked)
              ∙ (awaits-same s h left ordered.1.1.0.0 ordered.1.0 on ack
              ∙ ap (λ (p : Protocol). names_sent is_write ack (primary_connection h) && not (was_named (is_answered_by p) ack (primary_connection h))) asked)

          by-wait : (b : Bool) → names_sent is_write ack (primary_connection h) ≡ b → (d : Bool) → was_named was_written ack (primary_connection h) ≡ d
              → TakenAlike (Ok (WriteAckFrame ack)) s h (core-by (what.Frame command.WriteAck None) (core-test s.log.protocol waits))
              (model-by (what.Frame command.WriteAck None) (with_primary_connection (with_frame (Ok (WriteAckFrame ack))) h) (model-test h.settings.protocol))
          by-wait true named_so false unnamed =
              subst (λ b. TakenAlike (Ok (WriteAckFrame ack)) s h (core-by (what.Frame command.WriteAck None) b)
              (model-by (what.Frame command.WriteAck None) (with_primary_connection (with_frame (Ok (WriteAckFrame ack))) h) (model-test h.settings.protocol)))
              (sym (awaited ∙ λ i. named_so i && not (unnamed i)))
              (subst (λ b. TakenAlike (Ok (WriteAckFrame ack)) s h (core-by (what.Frame command.WriteAck None) true)
              (model-by (what.Frame command.WriteAck None) (with_primary_connection (with_frame (Ok (WriteAckFrame ack))) h) b))
              (sym (ap model-test asked ∙ λ i. named_so i && not (unnamed i)))
              (written-taken asked named_so unnamed))
          by-wait true named_so true again = refuse (Ok (WriteAckFrame ack)) name (core-test s.log.protocol waits) (model-test h.settings.protocol) (awaited
              ∙ λ i. named_so i && not (again i)) (ap model-test asked ∙ λ i. named_so i && not (again i))
          by-wait false none d so = refuse (Ok (WriteAckFrame ack)) name (core-test s.log.protocol waits) (model-test h.settings.protocol) (awaited
              ∙ λ i. none i && not (was_named was_written ack (primary_connection h))) (ap model-test asked
              ∙ λ i. none i && not (was_named was_written ack (primary_connection h)))
