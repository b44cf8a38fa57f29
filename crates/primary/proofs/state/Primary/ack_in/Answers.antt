use Rattle.std.proofs.Common.{◌≡◌, ◌∙◌, Bool, true, false, Some, Err, rules, refl, sym, ap}
use Rattle.std.specs.Prelude.{is_some}
use Rattle.blocks.specs.declared.refusal.Refusal.TheVariants.{NoMemory, NotConnected}
use Rattle.endpoint.proofs.Faults.{never-nothing}
use Rattle.primary_protocol.specs.Core.{is_established}
use Rattle.primary_protocol.proofs.Node.Takes.{not-open, not-ready}
use Rattle.primary.proofs.Taking.{readied-same, readied-some, takes-none, takes-some, takes-is, takes-refused}
use Rattle.primary.proofs.state.Primary.ack_in.Goals as goal
use Rattle.primary.proofs.state.Primary.ack_in.Goals.{then-not-is_established+in_ok-ready, else-not-is_established}

pub returns-then-not-is_open-clause-step : goal.returns-then-not-is_open-clause-step
returns-then-not-is_open-clause-step g c =
    let shut : is_some c.self.inside.core.state.end ≡ false = sym c.is_open.ensures ∙ c.if-not-is_open.true in
    rw (← c.self.view_is) (takes-none _ _ c.self.invariant c.self.inside.incoming NotConnected _ refl refl (readied-same c.self.inside.incoming)
    (λ no. absurd (cc)) (not-open c.self.inside.core.state shut))

pub returns-in_err-ready-clause-step : goal.returns-in_err-ready-clause-step
returns-in_err-ready-clause-step g c =
    let refused : c.from_residual.result ≡ Err c.in_err-ready.field-0.0 = search rules in
    let some : is_some c.self.inside.core.state.end ≡ true = sym c.is_open.ensures ∙ c.if-not-is_open.false in
    let down : is_established c.self.inside.core.state ≡ false = sym c.is_established.ensures ∙ c.if-not-is_established.true in
    takes-none _ _ c.self.invariant (Some c.ready.new.self) NoMemory _ c.self.view_is (refused
    ∙ ap Err c.in_err-ready.ensures.refused) (readied-some c.self.inside.incoming _ _ c.in-Some.is c.in_err-ready.ensures.unchanged) (λ no. absurd (cc))
    (not-ready c.self.inside.core.state some down)

pub invariant_of-self-2 : goal.invariant_of-self-2
invariant_of-self-2 g c =
    let some : is_some c.self.inside.core.state.end ≡ true = sym c.is_open.ensures ∙ c.if-not-is_open.false in
    let readied : (ready : Bool) × (c.if-not-is_established.incoming ≡ record c.in-Some.incoming { is_ready = ready }) = elim c.if-not-is_established.branch [
      | then-not-is_established+in_ok-ready w ↦ (true, w.incoming-is ∙ w.in_ok-ready.ensures.ready)
      | else-not-is_established w ↦ (c.in-Some.incoming.is_ready, w.incoming-is)
    ] in
    takes-is _ c.self.invariant c.in-Some.incoming c.if-not-is_established.incoming c.take.new.self c.in_ok-frame.frame _ _ c.in-Some.is some readied
    c.take-2.ensures
    c.in_ok-frame.ensures.taken c.in_ok-frame.ensures.still_ready

pub returns-clause-step : goal.returns-clause-step
returns-clause-step g c =
    let some : is_some c.self.inside.core.state.end ≡ true = sym c.is_open.ensures ∙ c.if-not-is_open.false in
    let readied : (ready : Bool) × (c.if-not-is_established.incoming ≡ record c.in-Some.incoming { is_ready = ready }) = elim c.if-not-is_established.branch [
      | then-not-is_established+in_ok-ready w ↦ (true, w.incoming-is ∙ w.in_ok-ready.ensures.ready)
      | else-not-is_established w ↦ (c.in-Some.incoming.is_ready, w.incoming-is)
    ] in
    takes-some _ c.self.invariant c.in-Some.incoming c.if-not-is_established.incoming c.take.new.self c.in_ok-frame.frame _ _ c.in-Some.is some readied
    c.take-2.ensures
    c.in_ok-frame.ensures.taken _ c.self.view_is c.in_ok-frame.ensures.row c.in_ok-frame.ensures.exact
    (never-nothing c.in_ok-frame.frame c.in_ok-frame.ensures.faults)

pub returns-clause-refused : goal.returns-clause-refused
returns-clause-refused g c =
    let some : is_some c.self.inside.core.state.end ≡ true = sym c.is_open.ensures ∙ c.if-not-is_open.false in
    let readied : (ready : Bool) × (c.if-not-is_established.incoming ≡ record c.in-Some.incoming { is_ready = ready }) = elim c.if-not-is_established.branch [
      | then-not-is_established+in_ok-ready w ↦ (true, w.incoming-is ∙ w.in_ok-ready.ensures.ready)
      | else-not-is_established w ↦ (c.in-Some.incoming.is_ready, w.incoming-is)
    ] in
    takes-refused _ c.self.invariant c.in-Some.incoming c.if-not-is_established.incoming c.take.new.self c.in_ok-frame.frame _ _ c.in-Some.is some readied
    c.take-2.ensures
    c.in_ok-frame.ensures.taken c.in_ok-frame.ensures.faults
