use Rattle.std.proofs.Common.{◌∙◌, ap, Ok}
use Rattle.blocks.specs.declared.outcome.What.TheVariants as what
use Rattle.transferlog.specs.Log as log
use Rattle.transferlog.specs.Writes.{storing}
use Rattle.primary_protocol.specs.Transitions.{logged, is_unfinished, local_done}
use Rattle.primary_core.specs.State.{core_of}
use Rattle.primary_core.proofs.SoundLog.{keeps-storing}
use Rattle.primary_core.proofs.Logged.{steps-changing, core-logged, finishes, follows-logged, seen-as}
use Rattle.primary_core.proofs.state.PrimaryCore.done.Goals as goal

pub invariant_of-self : goal.invariant_of-self
invariant_of-self c =
    let s = c.self.inside in
    core-logged s c.local_done-barrier.new.self c.local_done-barrier.result c.self.invariant
    (steps-changing s.settings c.args.number storing s.log.state c.local_done-barrier.new.self.state c.local_done-barrier.result keeps-storing
    c.local_done-barrier.ensures c.self.invariant.sound.log)

pub returns : goal.returns
returns c =
    let s = (core_of c.self.inside).state in
    let number = c.args.number in
    let step = log.local_done number s.log in
    let done = follows-logged s what.Nothing step c.local_done-barrier.result c.local_done-barrier.new.self.state (
      c.finish_step.result,
      c.finish_step.new.self.state,
    ) c.local_done-barrier.ensures c.finish_step.ensures in
    seen-as s c.args.self.now.state (local_done number) (Ok c.finish_step.result, c.finish_step.new.self.state) (ap (λ v. v.state) c.self.view_is)
    (finishes number s (c.finish_step.result, c.finish_step.new.self.state) (logged what.Nothing step s)
    (ap (λ v. is_unfinished number v.state) c.self.view_is ∙ c.requires) done)
