use Rattle.std.proofs.Common.{refl}
use Rattle.std.proofs.Common.{sym, subst, ◌<◌, ◌-◌, ◌+◌}
use Rattle.model.specs.LocalRuns.{OpensToo}
use Rattle.secondary.specs.State.{SecondaryView}
use Rattle.secondary_protocol.specs.Steps.{plainly, replied}
use Rattle.session_nodes.specs.Secondaries.{SecondarySteps}
use Rattle.session_nodes.proofs.Secondaries.{reopens-over, had-over}
use Rattle.std.proofs.Common.{◌≡◌}
use Rattle.blocks.specs.declared.refusal.Refusal.TheVariants.{NotDrained}
use Rattle.laws.proofs.Pair.CallRefusals.{opens-too-so}
use Rattle.session_nodes.proofs.Answers.{secondary-refused}
use Rattle.session_nodes.proofs.session_secondary.SessionSecondary.open_again.Goals as goal

abbrev steps : (g : _) (c : goal.After-reopen g)
    → SecondarySteps (OpensToo (c.args.number - (c.self.inside.node.core.number + 1))) c.self.inside.node (replied plainly c.reopen.result) c.reopen.new.self
steps g c = reopens-over c.args.number c.self.inside.node c.reopen.new.self c.reopen.result
    (subst (λ (v : SecondaryView). v.core.number < c.args.number) (sym c.self.view_is) c.requires.above) c.reopen.ensures.step c.reopen.ensures.link
    c.reopen.ensures.unchanged

pub invariant_of-self : goal.invariant_of-self
invariant_of-self g c = had-over (OpensToo (c.args.number - (c.self.inside.node.core.number + 1))) c.self.inside.node c.reopen.new.self
    (replied plainly c.reopen.result) (λ h. refl) c.self.invariant (steps g c)

pub returns-clause-step : goal.returns-clause-step
returns-clause-step g c = rw (← c.self.view_is) (steps g c)

pub returns-clause-refused : goal.returns-clause-refused
returns-clause-refused g c = secondary-refused (λ e. e ≡ NotDrained) plainly _ (OpensToo (c.args.number - (c.self.inside.node.core.number + 1))) _
    c.reopen.new.self c.reopen.result c.self.invariant c.reopen.ensures.step (λ h. opens-too-so (c.args.number - (c.self.inside.node.core.number + 1)) h)
