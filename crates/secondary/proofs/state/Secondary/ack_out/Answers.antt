use Rattle.std.proofs.Common.{◌≡◌, Err, rules, ap, true}
use Rattle.std.specs.Prelude.{is_some}
use Rattle.secondary_protocol.proofs.Node.Calls.{due-open}
use Rattle.secondary.proofs.Sends.{nothing-due-steps, not-sent-steps, not-out-of-memory, sends-none, sends-part, sent-is, sent-steps}
use Rattle.secondary.proofs.state.Secondary.ack_out.Goals as goal

pub returns-in_err-packet-clause-step : goal.returns-in_err-packet-clause-step
returns-in_err-packet-clause-step g c =
    let refused : c.from_residual.result ≡ Err c.in_err-packet.field-0.0 = search rules in
    rw (← c.self.view_is) (nothing-due-steps _ _ _ c.in_err-packet.ensures.due refused)

pub returns-in_err-packet-clause-link : goal.returns-in_err-packet-clause-link
returns-in_err-packet-clause-link g c =
    let refused : c.from_residual.result ≡ Err c.in_err-packet.field-0.0 = search rules in
    sends-none c.self.inside.core.state _ _ _ c.in_err-packet.ensures.due refused

pub returns-in_err-packet-clause-memory : goal.returns-in_err-packet-clause-memory
returns-in_err-packet-clause-memory g c =
    let refused : c.from_residual.result ≡ Err c.in_err-packet.field-0.0 = search rules in
    rw refused c.in_err-packet.ensures.memory

pub returns-in_err-push-clause-step : goal.returns-in_err-push-clause-step
returns-in_err-push-clause-step g c =
    let refused : c.from_residual-in_err-push.result ≡ Err c.in_err-push.field-0.0 = search rules in
    rw (← c.self.view_is) (not-sent-steps _ c.in-Some.outgoing c.push.new.self _ _ _ c.self.invariant c.in-Some.is c.in_ok-packet.ensures.due refused
    (λ other. (c.in_err-push.ensures.refused other).0) (ap (λ o. o.pushed) c.in_err-push.ensures.unchanged))

pub returns-in_err-push-clause-link : goal.returns-in_err-push-clause-link
returns-in_err-push-clause-link g c =
    let refused : c.from_residual-in_err-push.result ≡ Err c.in_err-push.field-0.0 = search rules in
    rw (← c.self.view_is) (sends-part _ c.in-Some.outgoing c.push.new.self _ _ c.in-Some.is c.in_err-push.ensures.unchanged refused c.in_err-push.ensures.full)

pub returns-in_err-push-clause-memory : goal.returns-in_err-push-clause-memory
returns-in_err-push-clause-memory g c =
    let refused : c.from_residual-in_err-push.result ≡ Err c.in_err-push.field-0.0 = search rules in
    rw refused (not-out-of-memory _ _ c.in_ok-packet.ensures.inline c.in_err-push.ensures.refused)

pub invariant_of-self-2 : goal.invariant_of-self-2
invariant_of-self-2 g c =
    sent-is _ _ c.in-Some.outgoing _ _ _ c.self.invariant c.in-Some.is c.in_ok-packet.ensures.due c.sent.ensures
    (ap (λ o. o.pushed) c.in_ok-push.ensures.pushed) (ap (λ o. o.partly) c.in_ok-push.ensures.pushed) (ap (λ o. o.number) c.in_ok-push.ensures.pushed)

pub returns-clause-step : goal.returns-clause-step
returns-clause-step g c =
    rw (← c.self.view_is) (sent-steps _ c.sent.new.self.state c.in-Some.outgoing c.push.new.self _ _ c.self.invariant c.in-Some.is
    c.in_ok-packet.ensures.due c.sent.ensures (ap (λ o. o.pushed) c.in_ok-push.ensures.pushed))

-- an open end has its side of the link
pub returns-in_default-clause-step : goal.returns-in_default-clause-step
returns-in_default-clause-step g c =
    let is_established : is_some c.self.inside.core.state.end ≡ true = due-open c.self.inside.core.state _ c.in_ok-packet.ensures.due in
    let there = c.self.invariant.out_there is_established in
    absurd (search rules)
