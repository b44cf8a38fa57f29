use Rattle.std.proofs.Common.{◌≡◌, ◌∙◌, Err, rules}
use Rattle.primary_protocol.specs.Steps.{plainly}
use Rattle.primary.proofs.Refused.{on-refused}
use Rattle.primary.proofs.Opening.{open-unchanged, open-refused-is, open-refused, opens-anew}
use Rattle.primary.proofs.state.Primary.reopen.Goals as goal

pub invariant_of-self : goal.invariant_of-self
invariant_of-self g c = open-refused-is _ _ c.args.sync c.args.loss _ _ c.in_err-open.was c.open.ensures c.self.invariant

pub returns-in_err-open-clause-step : goal.returns-in_err-open-clause-step
returns-in_err-open-clause-step g c =
    let refused : c.from_residual.result ≡ Err c.in_err-open.field-0.0 = search rules in
    rw (← c.self.view_is) (open-refused (λ number. plainly tt) _ c.self.invariant _ c.args.sync c.args.loss _ _ _ c.in_err-open.was refused c.open.ensures)

pub returns-in_err-open-clause-unchanged : goal.returns-in_err-open-clause-unchanged
returns-in_err-open-clause-unchanged g c =
    let refused : c.from_residual.result ≡ Err c.in_err-open.field-0.0 = search rules in
    on-refused _ _ _ refused (open-unchanged _ _ c.args.sync c.args.loss _ _ c.in_err-open.was c.open.ensures ∙ c.self.view_is)

pub invariant_of-self-2 : goal.invariant_of-self-2
invariant_of-self-2 g c =
    (opens-anew _ c.self.invariant _ c.args.sync c.args.loss _ _ _ c.in_ok-open.was c.open.ensures _ c.in-Some.outgoing c.in-Some-incoming.incoming
    c.connection_number-number.ensures c.restart.ensures c.restart-2.ensures).is

pub returns-clause-step : goal.returns-clause-step
returns-clause-step g c =
    rw (← c.self.view_is) (opens-anew _ c.self.invariant _ c.args.sync c.args.loss _ _ _ c.in_ok-open.was c.open.ensures _
    c.in-Some.outgoing c.in-Some-incoming.incoming c.connection_number-number.ensures c.restart.ensures c.restart-2.ensures).steps
