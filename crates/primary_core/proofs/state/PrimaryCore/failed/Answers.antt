use Rattle.std.proofs.Common.{ℕ, ◌≡◌, refl, sym, ◌∙◌, ap}
use Rattle.blocks.specs.declared.outcome.Done.{Done}
use Rattle.blocks.specs.declared.outcome.What.TheVariants as what
use Rattle.transferlog.specs.Log as log
use Rattle.transferlog.specs.Writes.{failing}
use Rattle.primary_protocol.specs.Core.{PrimaryState}
use Rattle.primary_protocol.specs.Transitions as transition
use Rattle.primary_protocol.specs.Transitions.{logged}
use Rattle.primary_core.specs.Local.{given_up}
use Rattle.primary_core.specs.State.{state_of}
use Rattle.primary_core.proofs.SoundLog.{keeps-failing}
use Rattle.primary_core.proofs.Logged.{steps-changing, core-logged, room-logged, finishes, follows-logged}
use Rattle.primary_core.proofs.state.PrimaryCore.failed.Goals as goal

pub invariant_of-self : goal.invariant_of-self
invariant_of-self c =
    core-logged c.self.inside c.local_fault-barrier.new.self c.local_fault-barrier.result c.self.invariant
    (steps-changing c.self.inside.settings c.args.number failing c.self.inside.log.state c.local_fault-barrier.new.self.state c.local_fault-barrier.result
    keeps-failing c.local_fault-barrier.ensures c.self.invariant.sound.log)

pub finish_step-requires : goal.finish_step-requires
finish_step-requires c = record {
  room =
      room-logged (state_of c.self.inside) c.local_fault-barrier.new.self.state c.local_fault-barrier.result _ c.self.invariant.room
      (steps-changing c.self.inside.settings c.args.number failing c.self.inside.log.state c.local_fault-barrier.new.self.state c.local_fault-barrier.result
      keeps-failing c.local_fault-barrier.ensures c.self.invariant.sound.log);
}

pub returns : goal.returns
returns c =
    let s = c.args.self.now.state in
    let t = state_of c.self.inside in
    let number = c.args.number in
    let write = c.in-Ok.ensures.write in
    let w = c.in-Ok.write.now in
    let given : t ≡ given_up number w.first w.count s =
    ap (λ v. v.state) c.self.view_is ∙ (c.give_up.ensures.state ∙ ap (λ (k : ℕ). given_up number k c.range-range.result.count s) c.range-range.ensures.first
    ∙ ap (λ (k : ℕ). given_up number w.first k s) c.range-range.ensures.count) in
    let failed : transition.failing number s ≡ given_up number w.first w.count s = rw (write.0, transition.failing) refl in
    let step = log.local_fault number t.log in
    let r : Done × PrimaryState = (c.finish_step.result, c.finish_step.new.self.state) in
    let done = follows-logged t what.Nothing step c.local_fault-barrier.result c.local_fault-barrier.new.self.state r c.local_fault-barrier.ensures
    c.finish_step.ensures
    ∙ (ap (λ (x : PrimaryState). logged what.Nothing (log.local_fault number x.log) x) given
    ∙ ap (logged what.Nothing (log.local_fault number s.log)) (sym failed)) in
    finishes number s r (logged what.Nothing (log.local_fault number s.log) (transition.failing number s)) c.requires done
