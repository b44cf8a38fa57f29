use Rattle.std.proofs.Common.{◌≡◌, ◌∙◌, ◌+◌, ◌≤◌, suc, Err, ap, arith, rules}
use Rattle.std.specs.Option.{option_map}
use Rattle.endpoint.specs.Meaning.{meant, meant_in}
use Rattle.endpoint.specs.PacketReceiver.{received_from}
use Rattle.secondary.proofs.Opens.{not-opened-is, not-opened-steps, opened-is, opened-steps}
use Rattle.secondary.proofs.state.Secondary.open.Goals as goal

pub invariant_of-self : goal.invariant_of-self
invariant_of-self g c = not-opened-is _ _ _ _ _ c.self.invariant c.in_err-open.was c.open.ensures

pub returns-in_err-open-clause-step : goal.returns-in_err-open-clause-step
returns-in_err-open-clause-step g c =
    let next : c.connection_number-number.result + 1 ≡ suc (c.self.inside.core.state.number + 0) = omega (arith, c.connection_number-number.ensures) in
    let refused : c.from_residual.result ≡ Err c.in_err-open.field-0.0 = search rules in
    rw (← c.self.view_is) (not-opened-steps 0 _ _ _ _ _ _ c.self.invariant next c.in_err-open.was refused c.open.ensures)

pub invariant_of-self-2 : goal.invariant_of-self-2
invariant_of-self-2 g c =
    let next : c.connection_number-number.result + 1 ≡ suc (c.self.inside.core.state.number + 0) = omega (arith, c.connection_number-number.ensures) in
    let out : c.new.result.number ≤ c.connection_number-number.result + 1 = omega (arith, ap (λ o. o.number) c.new.ensures, c.requires.outward.number) in
    let inn : c.new-2.result.number ≤ c.connection_number-number.result + 1 = omega (arith, ap (λ i. i.number) c.new-2.ensures, c.requires.inward.number) in
    opened-is 0 _ _ c.new.result c.new-2.result _ _ c.self.invariant next c.in_ok-open.was c.open.ensures (ap (λ o. o.pushed) c.new.ensures
    ∙ ap meant_in c.requires.outward.sent)
    (ap (λ o. o.partly) c.new.ensures ∙ ap (option_map meant) c.requires.outward.whole) (ap (λ i. i.taken) c.new-2.ensures
    ∙ ap (received_from 0) c.requires.inward.taken) out inn

pub returns-clause-step : goal.returns-clause-step
returns-clause-step g c =
    let next : c.connection_number-number.result + 1 ≡ suc (c.self.inside.core.state.number + 0) = omega (arith, c.connection_number-number.ensures) in
    rw (← c.self.view_is) (opened-steps 0 _ _ c.new.result c.new-2.result _ _ c.self.invariant next c.in_ok-open.was c.open.ensures
    (ap (λ o. o.pushed) c.new.ensures ∙ ap meant_in c.requires.outward.sent) (ap (λ i. i.taken) c.new-2.ensures
    ∙ ap (received_from 0) c.requires.inward.taken))
