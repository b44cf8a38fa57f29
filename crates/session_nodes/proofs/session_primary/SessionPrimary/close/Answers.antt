use Rattle.std.proofs.Common.{refl, ap}
use Rattle.primary.specs.State.{PrimaryView}
use Rattle.session_nodes.proofs.Ends.{ends-of}
use Rattle.session_nodes.proofs.Primaries.{steps-over, had-over}
use Rattle.blocks.specs.declared.outcome.Reply.TheVariants as reply
use Rattle.model.specs.LocalRuns.{Closes}
use Rattle.primary_protocol.specs.Node.{primary_step}
use Rattle.primary_protocol.specs.Steps.{replied}
use Rattle.session_nodes.specs.Primaries.{PrimarySteps}
use Rattle.std.proofs.Common.{◌≡◌}
use Rattle.std.specs.Prelude.{IfErr}
use Rattle.blocks.specs.declared.refusal.Refusal.TheVariants.{NotConnected}
use Rattle.laws.proofs.Pair.CallRefusals.{closes-so}
use Rattle.session_nodes.proofs.Answers.{primary-refused}
use Rattle.session_nodes.proofs.Primaries.{falls-with}
use Rattle.session_nodes.proofs.session_primary.SessionPrimary.close.Goals as goal

abbrev step-over : (g : _) (c : goal.After-close g) → PrimarySteps Closes c.self.inside.node (replied reply.Closed c.close.result) c.close.new.self
step-over g c =
    steps-over Closes tt (primary_step Closes) (λ h. refl) c.self.inside.node c.close.new.self (replied reply.Closed c.close.result)
    (ends-of (ap (λ (v : PrimaryView). v.outgoing) c.close.ensures.rest)
    (ap (λ (v : PrimaryView). v.incoming) c.close.ensures.rest)) c.close.ensures.step.replies c.close.ensures.step.after

pub invariant_of-self : goal.invariant_of-self
invariant_of-self g c = had-over Closes (primary_step Closes) c.self.inside.node c.close.new.self (replied reply.Closed c.close.result)
    (λ h. refl) c.self.invariant
    (step-over g c)

refused : (g : _) (c : goal.After-close g) → IfErr c.close.result (λ e. e ≡ NotConnected)
refused g c = primary-refused (λ e. e ≡ NotConnected) reply.Closed _ Closes _ c.close.new.self c.close.result c.self.invariant c.close.ensures.step closes-so

pub returns : goal.returns
returns g c = rw (← c.self.view_is) (record {
  step = step-over g c;
  refused = refused g c;
  falls = falls-with c.self.inside.node c.close.new.self (ap (λ (v : PrimaryView). v.faithful) c.close.ensures.rest);
})
