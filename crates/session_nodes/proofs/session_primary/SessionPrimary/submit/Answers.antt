use Rattle.std.proofs.Common.{refl, ap}
use Rattle.primary.specs.State.{PrimaryView}
use Rattle.session_nodes.proofs.Ends.{ends-of}
use Rattle.session_nodes.proofs.Primaries.{steps-over, had-over}
use Rattle.blocks.specs.declared.outcome.Reply.TheVariants as reply
use Rattle.endpoint.specs.Calls.{is_out_of_memory}
use Rattle.model.specs.LocalRuns.{Submits}
use Rattle.primary_protocol.specs.Node.{primary_step}
use Rattle.primary_protocol.specs.Steps.{replied}
use Rattle.primary_protocol.specs.Transitions.{whole_blocks}
use Rattle.session_nodes.specs.Primaries.{PrimarySteps}
use Rattle.std.proofs.Common.{◌≡◌, true}
use Rattle.model.specs.CallRefusals.{submit_refuses}
use Rattle.laws.proofs.Pair.CallRefusals.{submit-so}
use Rattle.session_nodes.proofs.Answers.{primary-refused}
use Rattle.session_nodes.proofs.Primaries.{falls-with}
use Rattle.session_nodes.proofs.session_primary.SessionPrimary.submit.Goals as goal

abbrev step-over : (g : _) (c : goal.After-submit g)
    → PrimarySteps (Submits c.args.first (whole_blocks c.args.bytes.now) (is_out_of_memory c.submit.result)) c.self.inside.node
    (replied (λ returned. reply.Ok returned.1) c.submit.result) c.submit.new.self
step-over g c =
    steps-over (Submits c.args.first (whole_blocks c.args.bytes.now) (is_out_of_memory c.submit.result)) tt
    (primary_step (Submits c.args.first (whole_blocks c.args.bytes.now) (is_out_of_memory c.submit.result))) (λ h. refl) c.self.inside.node c.submit.new.self
    (replied (λ returned. reply.Ok returned.1) c.submit.result)
    (ends-of (ap (λ (v : PrimaryView). v.outgoing) c.submit.ensures.rest)
    (ap (λ (v : PrimaryView). v.incoming) c.submit.ensures.rest)) c.submit.ensures.step.replies c.submit.ensures.step.after

pub invariant_of-self : goal.invariant_of-self
invariant_of-self g c = had-over (Submits c.args.first (whole_blocks c.args.bytes.now) (is_out_of_memory c.submit.result))
    (primary_step (Submits c.args.first (whole_blocks c.args.bytes.now) (is_out_of_memory c.submit.result))) c.self.inside.node
    c.submit.new.self (replied (λ returned. reply.Ok returned.1) c.submit.result) (λ h. refl) c.self.invariant (step-over g c)

pub returns-clause-step : goal.returns-clause-step
returns-clause-step g c = rw (← c.self.view_is) (step-over g c)

pub returns-clause-refused : goal.returns-clause-refused
returns-clause-refused g c = primary-refused (λ e. submit_refuses e ≡ true) (λ returned. reply.Ok returned.1) _
    (Submits c.args.first (whole_blocks c.args.bytes.now) (is_out_of_memory c.submit.result)) _ c.submit.new.self c.submit.result c.self.invariant
    c.submit.ensures.step (λ h. submit-so c.args.first (whole_blocks c.args.bytes.now) (is_out_of_memory c.submit.result) h)

pub returns-clause-falls : goal.returns-clause-falls
returns-clause-falls g c = rw (← c.self.view_is) (falls-with c.self.inside.node c.submit.new.self (ap (λ (v : PrimaryView). v.faithful) c.submit.ensures.rest))
