use Rattle.std.proofs.Common.{◌∙◌, refl, ap, subst, IsTrue, sym}
use Rattle.endpoint.specs.Calls.{is_out_of_memory}
use Rattle.model.specs.Pair.{CloseSecondaryEvent}
use Rattle.model.specs.SecondarySteps.{close_secondary}
use Rattle.secondary.specs.State.{SecondaryView}
use Rattle.pair.proofs.Pairing.{secondary-step, secondary-is}
use Rattle.pair.proofs.pair.Pair.close_secondary.Goals as goal

pub invariant_of-self : goal.invariant_of-self
invariant_of-self c =
    secondary-is CloseSecondaryEvent (is_out_of_memory c.close.result) (record { primary = c.self.inside.primary; secondary = c.self.inside.secondary })
    c.close.new.self _ c.self.invariant
    (secondary-step CloseSecondaryEvent (is_out_of_memory c.close.result) close_secondary (λ h. refl)
    (record { primary = c.self.inside.primary; secondary = c.self.inside.secondary }) c.close.new.self _ c.close.ensures.step)
    (ap (λ (v : SecondaryView). v.outgoing) c.close.ensures.rest) (ap (λ (v : SecondaryView). v.incoming) c.close.ensures.rest)
    (ap (λ (v : SecondaryView). v.steady) c.close.ensures.rest ∙ c.self.invariant.peer.0, subst IsTrue (sym (ap (λ (v : SecondaryView). v.faithful) c.close.ensures.rest)) c.self.invariant.peer.1)

pub returns : goal.returns
returns c = record {
  step = rw (← c.self.view_is)
      (secondary-step CloseSecondaryEvent (is_out_of_memory c.close.result) close_secondary (λ h. refl)
      (record { primary = c.self.inside.primary; secondary = c.self.inside.secondary }) c.close.new.self _ c.close.ensures.step);
}
