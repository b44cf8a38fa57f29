use Rattle.std.proofs.Common.{◌∙◌, refl, ap, subst, IsTrue, sym}
use Rattle.endpoint.specs.Calls.{is_out_of_memory}
use Rattle.model.specs.Pair.{ClosePrimaryEvent}
use Rattle.model.specs.PrimarySteps.{close_primary}
use Rattle.primary.specs.State.{PrimaryView}
use Rattle.pair.proofs.Pairing.{primary-step, primary-is}
use Rattle.pair.proofs.pair.Pair.close_primary.Goals as goal

pub invariant_of-self : goal.invariant_of-self
invariant_of-self c =
    primary-is ClosePrimaryEvent (is_out_of_memory c.close.result) (record { primary = c.self.inside.primary; secondary = c.self.inside.secondary })
    c.close.new.self
    _ c.self.invariant
    (primary-step ClosePrimaryEvent (is_out_of_memory c.close.result) close_primary (λ h. refl)
    (record { primary = c.self.inside.primary; secondary = c.self.inside.secondary }) c.close.new.self _ c.close.ensures.step)
    (ap (λ (v : PrimaryView). v.outgoing) c.close.ensures.rest) (ap (λ (v : PrimaryView). v.incoming) c.close.ensures.rest)
    (ap (λ (v : PrimaryView). v.steady) c.close.ensures.rest ∙ c.self.invariant.local.0, subst IsTrue (sym (ap (λ (v : PrimaryView). v.faithful) c.close.ensures.rest)) c.self.invariant.local.1)

pub returns : goal.returns
returns c = record {
  step = rw (← c.self.view_is)
      (primary-step ClosePrimaryEvent (is_out_of_memory c.close.result) close_primary (λ h. refl)
      (record { primary = c.self.inside.primary; secondary = c.self.inside.secondary }) c.close.new.self _ c.close.ensures.step);
}
