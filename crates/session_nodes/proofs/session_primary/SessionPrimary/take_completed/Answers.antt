use Rattle.std.proofs.Common.{refl, ap}
use Rattle.primary.specs.State.{PrimaryView}
use Rattle.session_nodes.proofs.Ends.{ends-of}
use Rattle.session_nodes.proofs.Primaries.{steps-over, had-over}
use Rattle.model.specs.LocalRuns.{Receipts}
use Rattle.primary_protocol.specs.Node.{take_receipt}
use Rattle.session_nodes.specs.Primaries.{IsPrimaryStep}
use Rattle.session_nodes.proofs.Answers.{receipt-refused}
use Rattle.session_nodes.proofs.Primaries.{falls-with}
use Rattle.session_nodes.proofs.session_primary.SessionPrimary.take_completed.Goals as goal

abbrev step-over : (g : _) (c : goal.After-take_completed g)
    → IsPrimaryStep (take_receipt c.args.number) c.self.inside.node c.take_completed.result c.take_completed.new.self
step-over g c =
    steps-over (Receipts c.args.number) tt (take_receipt c.args.number) (λ h. refl) c.self.inside.node c.take_completed.new.self c.take_completed.result
    (ends-of (ap (λ (v : PrimaryView). v.outgoing) c.take_completed.ensures.rest)
    (ap (λ (v : PrimaryView). v.incoming) c.take_completed.ensures.rest)) c.take_completed.ensures.step.replies c.take_completed.ensures.step.after

pub invariant_of-self : goal.invariant_of-self
invariant_of-self g c = had-over (Receipts c.args.number) (take_receipt c.args.number) c.self.inside.node c.take_completed.new.self c.take_completed.result
    (λ h. refl) c.self.invariant
    (step-over g c)

pub returns-clause-step : goal.returns-clause-step
returns-clause-step g c = rw (← c.self.view_is) (step-over g c)

pub returns-clause-refused : goal.returns-clause-refused
returns-clause-refused g c = receipt-refused _ c.args.number _ c.take_completed.new.self c.take_completed.result c.self.invariant c.take_completed.ensures.step

pub returns-clause-falls : goal.returns-clause-falls
returns-clause-falls g c = rw (← c.self.view_is) (falls-with c.self.inside.node c.take_completed.new.self (ap (λ (v : PrimaryView). v.faithful) c.take_completed.ensures.rest))
