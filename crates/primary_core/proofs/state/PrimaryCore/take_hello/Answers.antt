use Rattle.std.proofs.Common.{rules, ◌≡◌, Err, sym, ◌∙◌, ap}
use Rattle.endpoint.specs.Meaning.{meaning}
use Rattle.handshakes.specs.Handshake.{judged}
use Rattle.primary_protocol.specs.Core.{EndState}
use Rattle.primary_protocol.specs.Taking.{hearing, taking_hello}
use Rattle.primary_core.specs.State.{end_of}
use Rattle.primary_core.proofs.Ends.{end-at}
use Rattle.primary_core.proofs.Taken.{hello-refused}
use Rattle.primary_core.proofs.state.PrimaryCore.take_hello.Goals as goal

pub returns : goal.returns
returns c = search rules

pub returns-in_err-command : goal.returns-in_err-command
returns-in_err-command c e is =
    let s = c.args.self.now.state in
    let x = c.in-Some.connection in
    let p = c.args.packet in
    let r = c.in_err-command.field-0.0 in
    let ends = sym (end-at c.self.inside c.args.self.now x c.self.view_is c.in-Some.is) ∙ is in
    let same : end_of x ≡ e = cc in
    let refused : c.from_residual.result ≡ Err r = search rules in
    let judges = ap (λ v. judged x.handshake.hello_received p v.state.settings) (sym c.self.view_is) ∙ (sym c.judge.ensures ∙ c.in_err-command.was) in
    rw refused (sym (hello-refused x.handshake.hello_received p (hearing (end_of x)) s r judges)
    ∙ ap (λ (y : EndState). taking_hello y.hello_received (meaning p) (hearing y) s) same)
