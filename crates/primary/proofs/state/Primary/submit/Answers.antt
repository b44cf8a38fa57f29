use Rattle.std.proofs.Common.{◌≡◌, ◌∙◌, Err, rules, sym, ap}
use Rattle.blocks.specs.declared.outcome.What.TheVariants as what
use Rattle.primary.proofs.Opening.{submit-is, submit-named, submit-refused, submit-steps}
use Rattle.primary.proofs.state.Primary.submit.Goals as goal

pub invariant_of-self : goal.invariant_of-self
invariant_of-self g c = submit-is _ _ c.args.first c.args.bytes.now _ _ c.submit.ensures c.self.invariant

pub returns-in_err-done-clause-step : goal.returns-in_err-done-clause-step
returns-in_err-done-clause-step g c =
    let refused : c.from_residual.result ≡ Err c.in_err-done.field-0.0 = search rules in
    rw (← c.self.view_is) (submit-refused _ c.self.invariant _ c.args.first c.args.bytes.now _ _ _ c.in_err-done.was refused c.submit.ensures)

pub invariant_of-self-2 : goal.invariant_of-self-2
invariant_of-self-2 g c = submit-is _ _ c.args.first c.args.bytes.now _ _ c.submit.ensures c.self.invariant

pub returns-clause-step : goal.returns-clause-step
returns-clause-step g c = rw (← c.self.view_is) (submit-steps _ c.self.invariant _ c.args.first c.args.bytes.now _ _ c.in_ok-done.was c.submit.ensures)

pub returns-clause-number : goal.returns-clause-number
returns-clause-number g c = submit-named _ _ c.args.first c.args.bytes.now _ _ c.self.invariant c.in_ok-done.was c.submit.ensures
    ∙ ap what.Write (sym c.accepted.ensures)
