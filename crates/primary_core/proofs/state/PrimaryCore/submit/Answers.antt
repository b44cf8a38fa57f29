use Rattle.std.proofs.Common.{rules, List, ℕ, ◌≡◌, sym, ◌∙◌, ap, false, Err}
use Rattle.blocks.specs.declared.outcome.Done.{Done}
use Rattle.primary_protocol.specs.Transitions.{submit}
use Rattle.primary_core.specs.OutOfMemory.{is_out_of_memory}
use Rattle.primary_core.specs.Submit.{gone_out, taken_in}
use Rattle.primary_core.proofs.Submitted.{submit-refused, submit-done, submitted-is}
use Rattle.primary_core.proofs.state.PrimaryCore.submit.Goals as goal

pub returns-in_err-may_submit : goal.returns-in_err-may_submit
returns-in_err-may_submit c =
    let whole = c.in_ok-range.ensures.whole in
    let s = c.args.self.now.state in
    let r = c.in_ok-range.range in
    let e = c.in_err-may_submit.field-0.0 in
    let returned = sym c.may_submit.ensures ∙ c.in_err-may_submit.was in
    let refused : c.from_residual-in_err-may_submit.result ≡ Err e = search rules in
    rw refused (submit-refused s r.first.0 r.count c.args.bytes.now e whole.0 returned
    ∙ ap (λ (n : ℕ). submit n c.args.bytes.now (is_out_of_memory {R = Done} (Err e)) s) whole.1)

pub returns : goal.returns
returns c =
    let whole = c.in_ok-range.ensures.whole in
    let s = c.args.self.now.state in
    let r = c.in_ok-range.range in
    let returned = sym c.may_submit.ensures ∙ c.in_ok-may_submit.was in
    let done = submitted-is s c.accept.new.self.state r.first.0 r.count c.args.bytes.now c.in_ok-accepted.accepted (
      c.send_or_mark.result,
      c.send_or_mark.new.self.state,
    ) (c.in_ok-accepted.ensures.accepted ∙ ap (λ (b : List ℕ). taken_in r.first.0 r.count b s) c.in_ok-clone.ensures.cases)
    (c.send_or_mark.ensures ∙ ap (λ (b : List ℕ). gone_out c.in_ok-accepted.accepted r.first.0 r.count b c.accept.new.self.state)
    c.in_ok-shared.ensures.cases) in
    submit-done s r.first.0 r.count c.args.bytes.now (c.send_or_mark.result, c.send_or_mark.new.self.state) whole.0 returned done
    ∙ ap (λ (n : ℕ). submit n c.args.bytes.now false s) whole.1
