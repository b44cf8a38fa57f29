use Rattle.std.proofs.Common.{refl, ap}
use Rattle.endpoint.specs.Calls.{has_room, is_out_of_memory}
use Rattle.model.specs.LocalRuns.{Acknowledges}
use Rattle.secondary.specs.State.{SecondaryView}
use Rattle.secondary_protocol.specs.Steps.{replied}
use Rattle.session_nodes.specs.Secondaries.{SecondarySteps}
use Rattle.session_nodes.proofs.Ends.{ends-sent}
use Rattle.session_nodes.proofs.Secondaries.{runs-step, steps-over, had-over}
use Rattle.std.proofs.Common.{◌≡◌, true}
use Rattle.std.specs.Prelude.{IfErr}
use Rattle.model.specs.CallRefusals.{send_refuses}
use Rattle.laws.proofs.Pair.CallRefusals.{ack-out-so}
use Rattle.session_nodes.proofs.Answers.{answer-refused, secondary-refused}
use Rattle.session_nodes.proofs.session_secondary.SessionSecondary.ack_out.Goals as goal

abbrev step-over : (g : _) (c : goal.After-ack_out g)
    → SecondarySteps (Acknowledges (has_room c.ack_out.result) (is_out_of_memory c.ack_out.result)) c.self.inside.node (replied (λ done. done) c.ack_out.result)
    c.ack_out.new.self
step-over g c =
    steps-over (Acknowledges (has_room c.ack_out.result) (is_out_of_memory c.ack_out.result)) tt (λ h. refl) c.self.inside.node c.ack_out.new.self
    (replied (λ done. done) c.ack_out.result)
    (ends-sent c.ack_out.result c.ack_out.ensures.link (ap (λ (v : SecondaryView). v.incoming) c.ack_out.ensures.rest))
    c.ack_out.ensures.step

pub invariant_of-self : goal.invariant_of-self
invariant_of-self g c = had-over (Acknowledges (has_room c.ack_out.result) (is_out_of_memory c.ack_out.result)) c.self.inside.node c.ack_out.new.self
    (replied (λ done. done) c.ack_out.result) (λ h. refl) c.self.invariant (step-over g c)

sent : (g : _) (c : goal.After-ack_out g) → IfErr c.ack_out.result (λ e. send_refuses e ≡ true)
sent g c = secondary-refused (λ e. send_refuses e ≡ true) (λ done. done) _ (Acknowledges (has_room c.ack_out.result) (is_out_of_memory c.ack_out.result)) _
    c.ack_out.new.self c.ack_out.result c.self.invariant c.ack_out.ensures.step
    (λ h. ack-out-so (has_room c.ack_out.result) (is_out_of_memory c.ack_out.result) h)

pub returns : goal.returns
returns g c = rw (← c.self.view_is) (record {
  step = step-over g c;
  runs = runs-step (Acknowledges (has_room c.ack_out.result) (is_out_of_memory c.ack_out.result)) tt c.self.inside.node c.ack_out.new.self
      (replied (λ done. done) c.ack_out.result) (λ h. refl) (step-over g c);
  link = c.ack_out.ensures.link;
  memory = c.ack_out.ensures.memory;
  refused = answer-refused c.ack_out.result (sent g c) c.ack_out.ensures.memory;
})
