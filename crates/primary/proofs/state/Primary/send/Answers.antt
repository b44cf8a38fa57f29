use Rattle.std.proofs.Common.{◌≡◌, ◌∙◌, Err, rules, sym, ap}
use Rattle.std.specs.Prelude.{is_some}
use Rattle.std.proofs.lemmas.Bool.{both_ways}
use Rattle.primary_protocol.proofs.Node.Sends.{due-open}
use Rattle.primary.proofs.Sending.{blocks-wanted, not-due-steps, not-due-sent, not-pushed-steps, part-sent, sent-steps, sent-is, out-of-memory-owes}
use Rattle.primary.proofs.state.Primary.send.Goals as goal

pub returns-in_err-packet-clause-step : goal.returns-in_err-packet-clause-step
returns-in_err-packet-clause-step g c =
    let refused : c.from_residual.result ≡ Err c.in_err-packet.field-0.0 = search rules in
    rw (← c.self.view_is) (not-due-steps _ c.self.invariant _ _ refused c.in_err-packet.ensures.due)

pub returns-in_err-packet-clause-link : goal.returns-in_err-packet-clause-link
returns-in_err-packet-clause-link g c =
    let refused : c.from_residual.result ≡ Err c.in_err-packet.field-0.0 = search rules in
    not-due-sent _ c.self.invariant _ _ _ refused c.in_err-packet.ensures.due

pub returns-in_err-packet-clause-memory : goal.returns-in_err-packet-clause-memory
returns-in_err-packet-clause-memory g c =
    let refused : c.from_residual.result ≡ Err c.in_err-packet.field-0.0 = search rules in
    out-of-memory-owes _ _ _ _ c.self.view_is refused c.in_err-packet.ensures.memory

pub returns-in_default-clause-step : goal.returns-in_default-clause-step
returns-in_default-clause-step g c =
    absurd (both_ways (is_some c.self.inside.outgoing) (ap is_some c.in_default.is)
    (c.self.invariant.out_there (due-open c.self.inside.core.state _ c.in_ok-packet.ensures.due.0)))

pub returns-in_err-push-clause-step : goal.returns-in_err-push-clause-step
returns-in_err-push-clause-step g c =
    let refused : c.from_residual-in_err-push.result ≡ Err c.in_err-push.field-0.0 = search rules in
    rw (← c.self.view_is) (not-pushed-steps _ c.self.invariant c.in-Some.outgoing c.push.new.self _ _ _ c.in-Some.is c.in_ok-packet.ensures.due.0 refused
    (λ other. (c.in_err-push.ensures.refused other).0) (ap (λ o. o.pushed) c.in_err-push.ensures.unchanged))

pub returns-in_err-push-clause-link : goal.returns-in_err-push-clause-link
returns-in_err-push-clause-link g c =
    let refused : c.from_residual-in_err-push.result ≡ Err c.in_err-push.field-0.0 = search rules in
    part-sent c.in-Some.outgoing c.push.new.self _ _ _ (ap (λ v. v.outgoing) (sym c.self.view_is)
    ∙ c.in-Some.is) refused c.in_err-push.ensures.unchanged c.in_err-push.ensures.full

pub returns-in_err-push-clause-memory : goal.returns-in_err-push-clause-memory
returns-in_err-push-clause-memory g c =
    let refused : c.from_residual-in_err-push.result ≡ Err c.in_err-push.field-0.0 = search rules in
    out-of-memory-owes _ _ _ _ c.self.view_is refused (blocks-wanted _ _ _ c.in_ok-packet.ensures.inline c.in_err-push.ensures.refused)

pub invariant_of-self-2 : goal.invariant_of-self-2
invariant_of-self-2 g c =
    sent-is _ c.self.invariant c.in-Some.outgoing c.push.new.self _ _ _ _ c.in-Some.is c.in_ok-packet.ensures.due.0 c.sent.ensures c.in_ok-push.ensures.pushed

pub returns-clause-step : goal.returns-clause-step
returns-clause-step g c =
    rw (← c.self.view_is) (sent-steps _ c.self.invariant c.in-Some.outgoing c.push.new.self _ _ _ _ c.in-Some.is c.in_ok-packet.ensures.due.0
    c.sent.ensures c.in_ok-push.ensures.pushed)
