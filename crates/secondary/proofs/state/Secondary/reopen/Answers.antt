use Rattle.std.proofs.Common.{◌≡◌, ◌<◌, ◌≤◌, Err, sym, ap, subst, arith, rules}
use Rattle.secondary.proofs.Opens.{after-unseen, not-opened-is, not-opened-steps, opened-is, opened-steps}
use Rattle.secondary.proofs.state.Secondary.reopen.Goals as goal

pub invariant_of-self : goal.invariant_of-self
invariant_of-self g c = not-opened-is _ _ _ _ _ c.self.invariant c.in_err-open.was c.open.ensures

pub returns-in_err-open-clause-step : goal.returns-in_err-open-clause-step
returns-in_err-open-clause-step g c =
    let refused : c.from_residual.result ≡ Err c.in_err-open.field-0.0 = search rules in
    rw (← c.self.view_is) (not-opened-steps _ _ _ _ _ _ _ c.self.invariant
    (after-unseen _ _ (subst (λ v. v.core.number < c.args.number) (sym c.self.view_is) c.requires.above)) c.in_err-open.was refused c.open.ensures)

pub invariant_of-self-2 : goal.invariant_of-self-2
invariant_of-self-2 g c =
    let out : c.restart.new.self.number ≤ c.args.number = omega (arith, ap (λ o. o.number) c.restart.ensures) in
    let inn : c.restart-2.new.self.number ≤ c.args.number = omega (arith, ap (λ i. i.number) c.restart-2.ensures) in
    opened-is _ _ _ c.restart.new.self c.restart-2.new.self _ _ c.self.invariant
    (after-unseen _ _ (subst (λ v. v.core.number < c.args.number) (sym c.self.view_is) c.requires.above)) c.in_ok-open.was c.open.ensures
    (ap (λ o. o.pushed) c.restart.ensures) (ap (λ o. o.partly) c.restart.ensures) (ap (λ i. i.taken) c.restart-2.ensures) out inn

pub returns-clause-step : goal.returns-clause-step
returns-clause-step g c =
    rw (← c.self.view_is) (opened-steps _ _ _ c.restart.new.self c.restart-2.new.self _ _ c.self.invariant
    (after-unseen _ _ (subst (λ v. v.core.number < c.args.number) (sym c.self.view_is) c.requires.above)) c.in_ok-open.was c.open.ensures
    (ap (λ o. o.pushed) c.restart.ensures) (ap (λ i. i.taken) c.restart-2.ensures))
