use Rattle.std.proofs.Common.{◌≡◌, ◌∙◌, subst, true, ◌++◌, ◌∷◌, [], Err, Ok, ap, sym, rules}
use Rattle.std.specs.Prelude.{IfErr}
use Rattle.model.specs.CallRefusals.{receive_refuses}
use Rattle.endpoint.specs.Meaning.{received}
use Rattle.endpoint.proofs.Faults.{never-nothing}
use Rattle.secondary_protocol.specs.Core.{may_take}
use Rattle.secondary.proofs.Takes.{may-not-one, out-of-memory-one, may-refused, takes-is, takes-one, takes-refused}
use Rattle.secondary.proofs.state.Secondary.receive.Goals as goal

pub returns-in_err-may_take-clause-step : goal.returns-in_err-may_take-clause-step
returns-in_err-may_take-clause-step g c =
    let refused : c.from_residual.result ≡ Err c.in_err-may_take.field-0.0 = search rules in
    rw (← c.self.view_is) (may-not-one _ _ _ (sym c.may_take.ensures ∙ c.in_err-may_take.was) refused)

pub returns-in_err-ready-clause-step : goal.returns-in_err-ready-clause-step
returns-in_err-ready-clause-step g c =
    let refused : c.from_residual-in_err-ready.result ≡ Err c.in_err-ready.field-0.0 = search rules in
    rw (← c.self.view_is, c.in-Some.is, c.in_err-ready.ensures.unchanged) (out-of-memory-one _ _ (sym c.may_take.ensures ∙ c.in_ok-may_take.was) (refused
    ∙ ap Err c.in_err-ready.ensures.refused))

pub returns-in_err-ready-2-clause-step : goal.returns-in_err-ready-2-clause-step
returns-in_err-ready-2-clause-step g c =
    let refused : c.from_residual-in_err-ready-2.result ≡ Err c.in_err-ready-2.field-0.0 = search rules in
    rw (← c.self.view_is, c.in-Some.is, c.in_ok-ready.ensures.ready, c.in_err-ready-2.ensures.unchanged)
    (out-of-memory-one _ _ (sym c.may_take.ensures ∙ c.in_ok-may_take.was) (refused ∙ ap Err c.in_err-ready-2.ensures.refused))

pub invariant_of-self-2 : goal.invariant_of-self-2
invariant_of-self-2 g c =
    let may : may_take c.self.inside.core.state ≡ Ok tt = sym c.may_take.ensures ∙ c.in_ok-may_take.was in
    let taken : c.take.new.self.taken ≡ c.in-Some.incoming.taken ++ received c.in_ok-frame.frame ∷ [] = ap (λ i. i.taken) c.in_ok-frame.ensures.taken
    ∙ ap (λ i. i.taken ++ received c.in_ok-frame.frame ∷ []) c.in_ok-ready-2.ensures.ready in
    takes-is _ c.ready.new.self.state _ c.in-Some.incoming c.take.new.self (received c.in_ok-frame.frame) _ c.self.invariant c.in-Some.is may
    (ap (λ x. x.state) c.in_ok-ready.ensures.ready) c.take-2.ensures taken
    (ap (λ i. i.number) c.in_ok-frame.ensures.taken ∙ ap (λ i. i.number) c.in_ok-ready-2.ensures.ready)

pub returns-clause-step : goal.returns-clause-step
returns-clause-step g c =
    let may : may_take c.self.inside.core.state ≡ Ok tt = sym c.may_take.ensures ∙ c.in_ok-may_take.was in
    rw (← c.self.view_is) (takes-one _ c.ready.new.self.state _ c.in-Some.incoming c.ready-2.new.self c.take.new.self
    (received c.in_ok-frame.frame) _ c.self.invariant c.in-Some.is may (ap (λ x. x.state) c.in_ok-ready.ensures.ready) c.take-2.ensures
    c.in_ok-ready-2.ensures.ready c.in_ok-frame.ensures.taken c.in_ok-frame.ensures.row c.in_ok-frame.ensures.exact
    (never-nothing c.in_ok-frame.frame c.in_ok-frame.ensures.faults))

pub returns-in_err-may_take-clause-refused : goal.returns-in_err-may_take-clause-refused
returns-in_err-may_take-clause-refused g c =
    let refused : c.from_residual.result ≡ Err c.in_err-may_take.field-0.0 = search rules in
    subst (λ r. IfErr r (λ e. receive_refuses e ≡ true)) (sym refused)
    (may-refused c.self.inside.core.state c.in_err-may_take.field-0.0 (sym c.may_take.ensures ∙ c.in_err-may_take.was))

pub returns-clause-refused : goal.returns-clause-refused
returns-clause-refused g c =
    let may : may_take c.self.inside.core.state ≡ Ok tt = sym c.may_take.ensures ∙ c.in_ok-may_take.was in
    let taken : c.take.new.self.taken ≡ c.in-Some.incoming.taken ++ received c.in_ok-frame.frame ∷ [] = ap (λ i. i.taken) c.in_ok-frame.ensures.taken
    ∙ ap (λ i. i.taken ++ received c.in_ok-frame.frame ∷ []) c.in_ok-ready-2.ensures.ready in
    takes-refused _ c.ready.new.self.state _ c.in-Some.incoming c.take.new.self c.in_ok-frame.frame _ c.self.invariant c.in-Some.is may
    (ap (λ x. x.state) c.in_ok-ready.ensures.ready) c.take-2.ensures taken c.in_ok-frame.ensures.faults
