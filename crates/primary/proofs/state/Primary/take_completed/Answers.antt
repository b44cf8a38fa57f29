use Rattle.std.proofs.Common.{◌≡◌, ◌∙◌, Err, rules, sym, ap}
use Rattle.std.specs.Prelude.{ok_or}
use Rattle.blocks.specs.declared.refusal.Refusal.TheVariants.{NotCompleted}
use Rattle.primary.proofs.ReceiptTaken.{receipt-is, receipt-refused, receipt-given}
use Rattle.primary.proofs.state.Primary.take_completed.Goals as goal
use Rattle.primary.proofs.state.Primary.take_completed.Goals.{in-Some, in-None}

pub invariant_of-self : goal.invariant_of-self
invariant_of-self g c = receipt-is _ c.self.invariant c.args.number _ _ c.take_completed.ensures

pub returns-in_err-entry-clause-step : goal.returns-in_err-entry-clause-step
returns-in_err-entry-clause-step g c =
    let refused : c.from_residual.result ≡ Err c.in_err-entry.field-0.0 = search rules in
    rw (← c.self.view_is) (receipt-refused _ c.self.invariant c.args.number _ _ c.take_completed.ensures _ _ c.in_err-entry.was refused)

pub invariant_of-self-2 : goal.invariant_of-self-2
invariant_of-self-2 g c = receipt-is _ c.self.invariant c.args.number _ _ c.take_completed.ensures

pub returns-clause-step : goal.returns-clause-step
returns-clause-step g c =
    let returned : c.match-of.result ≡ ok_or c.of.result NotCompleted = elim c.match-of.branch [
      | in-Some w ↦ w.result-is ∙ ap (λ r. ok_or r NotCompleted) (sym w.in-Some.is)
      | in-None w ↦ w.result-is ∙ ap (λ r. ok_or r NotCompleted) (sym w.in-None.is)
    ] in
    rw (← c.self.view_is) (receipt-given _ c.self.invariant c.args.number _ _ c.take_completed.ensures c.in_ok-entry.entry _ c.in_ok-entry.was (returned
    ∙ ap (λ r. ok_or r NotCompleted) c.of.ensures))
