use Rattle.std.proofs.Common.{rules, ◌≡◌, Err, None, ◌∙◌, ap}
use Rattle.blocks.specs.declared.outcome.What.TheVariants as what
use Rattle.endpoint.specs.Meaning as meaning
use Rattle.transferlog.specs.Log.{acked}
use Rattle.primary_protocol.specs.Taking.{answered, named}
use Rattle.primary_core.specs.State.{core_of, state_of}
use Rattle.primary_core.proofs.Answered.{acked-not, acked-steps, answered-err}
use Rattle.primary_core.proofs.Logged.{core-logged, room-logged}
use Rattle.primary_core.proofs.Epochs.{nothing-appended}
use Rattle.primary_core.proofs.state.PrimaryCore.answer.Goals as goal

pub invariant_of-self : goal.invariant_of-self
invariant_of-self c =
    let s = c.self.inside in
    let is = c.self.invariant in
    let same = acked-not c.args.kind (named (meaning.named c.args.ack)) s.log.state c.acked.new.self.state c.acked.result c.in_err-barrier.field-0.0
    (c.acked.ensures ∙ ap (λ of. acked c.args.kind of c.self.inside.log.state) c.as_named.ensures) c.in_err-barrier.was in
    core-logged s c.acked.new.self None is
    (record {
      sound = rw same is.sound.log;
      accepted = ap (λ l. l.accepted) same;
      connection = ap (λ l. l.connection) same;
      appends = rw same (nothing-appended s.log.state.epochs);
    })

pub invariant_of-self-2 : goal.invariant_of-self-2
invariant_of-self-2 c =
    let s = c.self.inside in
    core-logged s c.acked.new.self c.in_ok-barrier.barrier c.self.invariant
    (acked-steps s.settings c.args.kind (named (meaning.named c.args.ack)) s.log.state c.acked.new.self.state c.acked.result c.in_ok-barrier.barrier
    (c.acked.ensures ∙ ap (λ of. acked c.args.kind of c.self.inside.log.state) c.as_named.ensures) c.in_ok-barrier.was c.self.invariant.sound.log)

pub finish_step-requires : goal.finish_step-requires
finish_step-requires c =
    let s = c.self.inside in
    record {
      room =
          room-logged (state_of s) c.acked.new.self.state c.in_ok-barrier.barrier _ c.self.invariant.room
          (acked-steps s.settings c.args.kind (named (meaning.named c.args.ack)) s.log.state c.acked.new.self.state c.acked.result c.in_ok-barrier.barrier
          (c.acked.ensures ∙ ap (λ of. acked c.args.kind of c.self.inside.log.state) c.as_named.ensures) c.in_ok-barrier.was c.self.invariant.sound.log);
    }

pub returns-in_err-barrier : goal.returns-in_err-barrier
returns-in_err-barrier c =
    let s = c.self.inside in
    let v = core_of s in
    let e = c.in_err-barrier.field-0.0 in
    let ack = meaning.named c.args.ack in
    let refused : c.from_residual.result ≡ Err e = search rules in
    rw refused (answered-err (what.Frame c.args.command None) c.args.kind ack v.state c.acked.new.self.state c.acked.result e (c.acked.ensures
    ∙ ap (λ of. acked c.args.kind of c.self.inside.log.state) c.as_named.ensures) c.in_err-barrier.was
    ∙ ap (λ x. answered (what.Frame c.args.command None) c.args.kind ack x.state) c.self.view_is)
