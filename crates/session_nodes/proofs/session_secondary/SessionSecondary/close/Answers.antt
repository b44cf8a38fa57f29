use Rattle.std.proofs.Common.{refl, ap}
use Rattle.model.specs.LocalRuns.{ClosesToo}
use Rattle.secondary.specs.State.{SecondaryView}
use Rattle.secondary_protocol.specs.Steps.{plainly, replied}
use Rattle.session_nodes.specs.Secondaries.{SecondarySteps}
use Rattle.session_nodes.proofs.Ends.{ends-of}
use Rattle.session_nodes.proofs.Secondaries.{steps-over, had-over}
use Rattle.std.proofs.Common.{◌≡◌}
use Rattle.std.specs.Prelude.{IfErr}
use Rattle.blocks.specs.declared.refusal.Refusal.TheVariants.{NotConnected}
use Rattle.laws.proofs.Pair.CallRefusals.{closes-too-so}
use Rattle.session_nodes.proofs.Answers.{secondary-refused}
use Rattle.session_nodes.proofs.session_secondary.SessionSecondary.close.Goals as goal

abbrev step-over : (g : _) (c : goal.After-close g) → SecondarySteps ClosesToo c.self.inside.node (replied plainly c.close.result) c.close.new.self
step-over g c =
    steps-over ClosesToo tt (λ h. refl) c.self.inside.node c.close.new.self (replied plainly c.close.result)
    (ends-of (ap (λ (v : SecondaryView). v.outgoing) c.close.ensures.rest)
    (ap (λ (v : SecondaryView). v.incoming) c.close.ensures.rest)) c.close.ensures.step

pub invariant_of-self : goal.invariant_of-self
invariant_of-self g c = had-over ClosesToo c.self.inside.node c.close.new.self (replied plainly c.close.result) (λ h. refl) c.self.invariant (step-over g c)

refused : (g : _) (c : goal.After-close g) → IfErr c.close.result (λ e. e ≡ NotConnected)
refused g c = secondary-refused (λ e. e ≡ NotConnected) plainly _ ClosesToo _ c.close.new.self c.close.result c.self.invariant c.close.ensures.step closes-too-so

pub returns : goal.returns
returns g c = rw (← c.self.view_is) (record { step = step-over g c; refused = refused g c })
