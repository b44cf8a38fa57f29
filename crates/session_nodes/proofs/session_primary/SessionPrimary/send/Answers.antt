use Rattle.std.proofs.Common.{◌≡◌, true, refl, ap, subst}
use Rattle.std.specs.Prelude.{IfErr}
use Rattle.blocks.specs.declared.outcome.Reply.TheVariants as reply
use Rattle.blocks.specs.declared.refusal.Refusal.TheVariants.{NoMemory}
use Rattle.endpoint.specs.Calls.{has_room, is_out_of_memory}
use Rattle.model.specs.LocalRuns.{Sends}
use Rattle.primary.specs.State.{PrimaryView}
use Rattle.primary_core.specs.Send.{owes_blocks}
use Rattle.primary_protocol.specs.Node.{primary_step}
use Rattle.primary_protocol.specs.Steps.{replied}
use Rattle.session_nodes.specs.Primaries.{PrimarySteps}
use Rattle.session_nodes.proofs.Ends.{ends-sent}
use Rattle.session_nodes.proofs.Primaries.{runs-step, steps-over, had-over}
use Rattle.model.specs.CallRefusals.{send_refuses}
use Rattle.laws.proofs.Pair.CallRefusals.{send-so}
use Rattle.session_nodes.proofs.Answers.{primary-refused}
use Rattle.session_nodes.proofs.Primaries.{falls-with}
use Rattle.session_nodes.proofs.session_primary.SessionPrimary.send.Goals as goal

abbrev step-over : (g : _) (c : goal.After-send g)
    → PrimarySteps (Sends (has_room c.send.result) (is_out_of_memory c.send.result)) c.self.inside.node (replied reply.Ok c.send.result) c.send.new.self
step-over g c =
    let event = Sends (has_room c.send.result) (is_out_of_memory c.send.result) in
    steps-over event tt (primary_step event) (λ h. refl) c.self.inside.node c.send.new.self (replied reply.Ok c.send.result)
    (ends-sent c.send.result c.send.ensures.link (ap (λ (v : PrimaryView). v.incoming) c.send.ensures.rest))
    c.send.ensures.step.replies c.send.ensures.step.after

-- src/session_primary.rt
pub invariant_of-self : goal.invariant_of-self
invariant_of-self g c = had-over (Sends (has_room c.send.result) (is_out_of_memory c.send.result))
    (primary_step (Sends (has_room c.send.result) (is_out_of_memory c.send.result))) c.self.inside.node c.send.new.self
    (replied reply.Ok c.send.result) (λ h. refl) c.self.invariant (step-over g c)

pub returns-clause-step : goal.returns-clause-step
returns-clause-step g c = rw (← c.self.view_is) (step-over g c)

pub returns-clause-runs : goal.returns-clause-runs
returns-clause-runs g c = rw (← c.self.view_is)
    (runs-step (Sends (has_room c.send.result) (is_out_of_memory c.send.result)) tt c.self.inside.node c.send.new.self
    (replied reply.Ok c.send.result) (λ h. refl) (step-over g c))

pub returns-clause-memory : goal.returns-clause-memory
returns-clause-memory g c = subst (λ (v : PrimaryView). IfErr c.send.result (λ e. e ≡ NoMemory → owes_blocks v.core ≡ true)) c.self.view_is
    c.send.ensures.memory

pub returns-clause-refused : goal.returns-clause-refused
returns-clause-refused g c = primary-refused (λ e. send_refuses e ≡ true) reply.Ok _ (Sends (has_room c.send.result) (is_out_of_memory c.send.result)) _
    c.send.new.self c.send.result c.self.invariant c.send.ensures.step (λ h. send-so (has_room c.send.result) (is_out_of_memory c.send.result) h)

pub returns-clause-falls : goal.returns-clause-falls
returns-clause-falls g c = rw (← c.self.view_is) (falls-with c.self.inside.node c.send.new.self (ap (λ (v : PrimaryView). v.faithful) c.send.ensures.rest))
