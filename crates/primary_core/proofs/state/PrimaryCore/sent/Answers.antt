use Rattle.std.proofs.Common.{◌≡◌, Some, refl, sym, ◌∙◌, ap}
use Rattle.std.specs.Prelude.{drop, slice_get}
use Rattle.blocks.specs.declared.outcome.Done.{Done}
use Rattle.blocks.specs.declared.outcome.What.TheVariants as what
use Rattle.model.specs.Refusals.{done_with}
use Rattle.model.specs.Stream.{is_write, number_of}
use Rattle.transferlog.specs.Log as log
use Rattle.transferlog.specs.Log.{answers_sent}
use Rattle.transferlog.specs.Writes.{sending}
use Rattle.primary_protocol.specs.Core.{PrimaryState, with_end}
use Rattle.primary_protocol.specs.Transitions.{logged, pushed_item}
use Rattle.primary_core.specs.State.{end_of, items_in, state_of}
use Rattle.primary_core.proofs.Ends.{end-at}
use Rattle.primary_core.proofs.Logged.{steps-changing, core-logged, follows-logged}
use Rattle.primary_core.proofs.Sending.{all-said, is-write, no-write, sent-item}
use Rattle.primary_core.proofs.SoundLog.{keeps-sending}
use Rattle.primary_core.proofs.state.PrimaryCore.sent.Goals as goal

pub invariant_of-self : goal.invariant_of-self
invariant_of-self c =
    let s = c.self-in-Some-write.inside in
    let is = c.self-in-Some-write.invariant in
    let answers = answers_sent s.log.state.protocol in
    core-logged s c.sent-barrier.new.self c.sent-barrier.result is
    (steps-changing s.settings c.in-Some-write.number (sending answers) s.log.state c.sent-barrier.new.self.state c.sent-barrier.result
    (keeps-sending answers) c.sent-barrier.ensures is.sound.log)

pub returns-in-Some-write : goal.returns-in-Some-write
returns-in-Some-write c =
    let s = c.args.self.now.state in
    let x = c.in-Some.connection in
    let item = c.in-Some-pop.item in
    let at = end-at c.self.inside c.args.self.now x c.self.view_is c.in-Some.is in
    let over = all-said x.handshake.hello_sent c.self.inside.settings x.handshake.own (sym c.due.ensures ∙ c.in_default-due.is) in
    let first = ap (λ o. slice_get (items_in o) 0) (sym at) ∙ (sym c.pop.ensures.item ∙ c.in-Some-pop.is) in
    let name = what.Frame c.command-2.result (Some c.next_place-place.result) in
    let v = state_of c.self-in-Some-write.inside in
    let t : PrimaryState = with_end (λ e. record e { unsent = drop 1 e.unsent }) s in
    let left : v ≡ t = ap (λ y. y.state) c.self-in-Some-write.view_is ∙ c.pop.ensures.state in
    let r : Done × PrimaryState = (c.finish_step.result, c.finish_step.new.self.state) in
    let write = is-write (is_write item) (number_of item) c.in-Some-write.number c.write.result c.write.ensures c.in-Some-write.is in
    let pushes : pushed_item name (Some item) t ≡ logged name (log.sent (number_of item) t.log) t = rw write.0 refl in
    follows-logged v name (log.sent c.in-Some-write.number v.log) c.sent-barrier.result c.sent-barrier.new.self.state r c.sent-barrier.ensures c.finish_step.ensures
    ∙ (ap (λ (y : PrimaryState). logged name (log.sent c.in-Some-write.number y.log) y) left
    ∙ (ap (λ k. logged name (log.sent k t.log) t) write.1
    ∙ (sym pushes ∙ sent-item s (end_of x) item c.command-2.result c.next_place-place.result at over first c.command-2.ensures
    (c.next_place-place.ensures (end_of x) at))))

pub returns : goal.returns
returns c =
    let s = c.args.self.now.state in
    let x = c.in-Some.connection in
    let item = c.in-Some-pop.item in
    let at = end-at c.self.inside c.args.self.now x c.self.view_is c.in-Some.is in
    let over = all-said x.handshake.hello_sent c.self.inside.settings x.handshake.own (sym c.due.ensures ∙ c.in_default-due.is) in
    let first = ap (λ o. slice_get (items_in o) 0) (sym at) ∙ (sym c.pop.ensures.item ∙ c.in-Some-pop.is) in
    let name = what.Frame c.command-2.result (Some c.next_place-place.result) in
    let t : PrimaryState = with_end (λ e. record e { unsent = drop 1 e.unsent }) s in
    let none = no-write (is_write item) (number_of item) c.write.result c.write.ensures c.in-None.is in
    let pushes : pushed_item name (Some item) t ≡ (done_with name, t) = rw none refl in
    ap (λ (d : Done). (d, c.pop.new.self.state)) c.about-in-None.ensures ∙ (ap (λ (y : PrimaryState). (done_with name, y)) c.pop.ensures.state
    ∙ (sym pushes ∙ sent-item s (end_of x) item c.command-2.result c.next_place-place.result at over first c.command-2.ensures
    (c.next_place-place.ensures (end_of x) at)))
