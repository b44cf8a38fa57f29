use Rattle.std.proofs.Common.{rules, ◌≡◌, ◌∙◌, Err, sym}
use Rattle.secondary_core.specs.Connections.{end_of}
use Rattle.secondary_core.proofs.Checks.{not-greeted}
use Rattle.secondary_core.proofs.state.SecondaryCore.judge.Goals as goal

pub returns-in_err-command : goal.returns-in_err-command
returns-in_err-command c =
    let refused : c.from_residual-in_err-command.result ≡ Err c.in_err-command.field-0.0 = search rules in
    rw (c.in_ok-packet.was, refused, c.in_err-command.ensures.unchanged, ← c.self.view_is, c.in-Some.is)
    (not-greeted _ (end_of c.in-Some.field-0) c.in_ok-packet.packet c.in_err-command.field-0.0 (sym c.is_received.ensures ∙ c.if-is_received.false)
    (sym c.take_hello_frame.ensures.judged ∙ c.in_err-command.was))
