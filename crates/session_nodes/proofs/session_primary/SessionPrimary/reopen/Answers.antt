use Rattle.std.proofs.Common.{refl}
use Rattle.endpoint.specs.Calls.{is_out_of_memory}
use Rattle.model.specs.LocalRuns.{Opens}
use Rattle.primary_protocol.specs.Node.{primary_step}
use Rattle.primary_protocol.specs.Steps.{plainly, replied}
use Rattle.session_nodes.specs.Primaries.{PrimarySteps}
use Rattle.session_nodes.proofs.Primaries.{reopens-over, had-over, is-there}
use Rattle.std.proofs.Common.{◌≡◌, true}
use Rattle.model.specs.CallRefusals.{reopen_refuses}
use Rattle.laws.proofs.Pair.CallRefusals.{opens-so}
use Rattle.session_nodes.proofs.Answers.{primary-refused}
use Rattle.session_nodes.proofs.Primaries.{falls-reopened}
use Rattle.session_nodes.proofs.session_primary.SessionPrimary.reopen.Goals as goal

pub reopen-requires-clause-opened : goal.reopen-requires-clause-opened
reopen-requires-clause-opened g c = (is-there c.self.inside.node c.self.invariant).0

pub reopen-requires-clause-opened_too : goal.reopen-requires-clause-opened_too
reopen-requires-clause-opened_too g c = (is-there c.self.inside.node c.self.invariant).1

abbrev steps : (g : _) (c : goal.After-reopen g)
    → PrimarySteps (Opens c.args.words.sync c.args.words.loss (is_out_of_memory c.reopen.result)) c.self.inside.node (replied (λ number. plainly tt) c.reopen.result)
    c.reopen.new.self
steps g c = reopens-over c.args.words.sync c.args.words.loss c.self.inside.node c.reopen.new.self c.reopen.result c.reopen.ensures.step c.reopen.ensures.link
    c.reopen.ensures.number c.reopen.ensures.unchanged

pub invariant_of-self : goal.invariant_of-self
invariant_of-self g c = had-over (Opens c.args.words.sync c.args.words.loss (is_out_of_memory c.reopen.result))
    (primary_step (Opens c.args.words.sync c.args.words.loss (is_out_of_memory c.reopen.result))) c.self.inside.node c.reopen.new.self
    (replied (λ number. plainly tt) c.reopen.result) (λ h. refl) c.self.invariant (steps g c)

pub returns-clause-step : goal.returns-clause-step
returns-clause-step g c = rw (← c.self.view_is) (steps g c)

pub returns-clause-refused : goal.returns-clause-refused
returns-clause-refused g c = primary-refused (λ e. reopen_refuses e ≡ true) (λ number. plainly tt) _
    (Opens c.args.words.sync c.args.words.loss (is_out_of_memory c.reopen.result)) _ c.reopen.new.self c.reopen.result c.self.invariant c.reopen.ensures.step
    (λ h. opens-so c.args.words.sync c.args.words.loss (is_out_of_memory c.reopen.result) h)

pub returns-clause-falls : goal.returns-clause-falls
returns-clause-falls g c = rw (← c.self.view_is)
    (falls-reopened c.self.inside.node c.reopen.new.self c.reopen.result c.reopen.ensures.link c.reopen.ensures.unchanged)
