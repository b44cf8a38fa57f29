use Rattle.std.proofs.Common.{rules, ◌≡◌, Err, None, sym, ◌∙◌, ap}
use Rattle.primary_protocol.specs.Taking.{confirmed}
use Rattle.primary_core.specs.State.{core_of, state_of}
use Rattle.primary_core.proofs.Answered.{confirmed-not, confirmed-steps, confirmed-err}
use Rattle.primary_core.proofs.Logged.{core-logged, room-logged}
use Rattle.primary_core.proofs.Epochs.{nothing-appended}
use Rattle.primary_core.proofs.state.PrimaryCore.confirm.Goals as goal

pub invariant_of-self : goal.invariant_of-self
invariant_of-self c =
    let s = c.self.inside in
    let is = c.self.invariant in
    let same = confirmed-not c.args.number c.args.size s.log.state c.barrier_acked.new.self.state c.barrier_acked.result c.in_err-barrier_acked.field-0.0
    c.barrier_acked.ensures c.in_err-barrier_acked.was in
    core-logged s c.barrier_acked.new.self None is
    (record {
      sound = rw same is.sound.log;
      accepted = ap (λ l. l.accepted) same;
      connection = ap (λ l. l.connection) same;
      appends = rw same (nothing-appended s.log.state.epochs);
    })

pub invariant_of-self-2 : goal.invariant_of-self-2
invariant_of-self-2 c =
    let s = c.self.inside in
    core-logged s c.barrier_acked.new.self None c.self.invariant
    (confirmed-steps s.settings c.args.number c.args.size s.log.state c.barrier_acked.new.self.state c.barrier_acked.result c.in_ok-barrier_acked.field-0
    c.barrier_acked.ensures c.in_ok-barrier_acked.was c.self.invariant.sound.log)

pub finish_step-requires : goal.finish_step-requires
finish_step-requires c =
    let s = c.self.inside in
    record {
      room =
          room-logged (state_of s) c.barrier_acked.new.self.state None _ c.self.invariant.room
          (confirmed-steps s.settings c.args.number c.args.size s.log.state c.barrier_acked.new.self.state c.barrier_acked.result c.in_ok-barrier_acked.field-0
          c.barrier_acked.ensures c.in_ok-barrier_acked.was c.self.invariant.sound.log);
    }

pub returns-in_err-barrier_acked : goal.returns-in_err-barrier_acked
returns-in_err-barrier_acked c e is =
    let s = c.self.inside in
    let v = core_of s in
    let refusal = c.in_err-barrier_acked.field-0.0 in
    let refused : c.from_residual.result ≡ Err refusal = search rules in
    let may = sym (c.is_going_on.ensures e is) ∙ c.if-is_going_on.false in
    rw refused (confirmed-err c.args.number c.args.size e v.state c.barrier_acked.new.self.state c.barrier_acked.result refusal may c.barrier_acked.ensures
    c.in_err-barrier_acked.was ∙ ap (λ x. confirmed c.args.number c.args.size e x.state) c.self.view_is)
