use Rattle.std.proofs.Common.{◌∙◌, refl, ap, subst, IsTrue, sym}
use Rattle.endpoint.specs.Calls.{is_out_of_memory}
use Rattle.model.specs.Pair.{SubmitEvent}
use Rattle.model.specs.PrimarySteps.{submit}
use Rattle.primary_protocol.specs.Transitions.{whole_blocks}
use Rattle.primary.specs.State.{PrimaryView}
use Rattle.pair.proofs.Pairing.{primary-step, primary-is}
use Rattle.pair.proofs.pair.Pair.submit.Goals as goal

pub invariant_of-self : goal.invariant_of-self
invariant_of-self c =
    primary-is (SubmitEvent c.args.first (whole_blocks c.args.contents.now)) (is_out_of_memory c.submit.result)
    (record { primary = c.self.inside.primary; secondary = c.self.inside.secondary }) c.submit.new.self _ c.self.invariant
    (primary-step (SubmitEvent c.args.first (whole_blocks c.args.contents.now)) (is_out_of_memory c.submit.result)
    (submit c.args.first (whole_blocks c.args.contents.now) (is_out_of_memory c.submit.result)) (λ h. refl)
    (record { primary = c.self.inside.primary; secondary = c.self.inside.secondary }) c.submit.new.self _ c.submit.ensures.step)
    (ap (λ (v : PrimaryView). v.outgoing) c.submit.ensures.rest) (ap (λ (v : PrimaryView). v.incoming) c.submit.ensures.rest)
    (ap (λ (v : PrimaryView). v.steady) c.submit.ensures.rest ∙ c.self.invariant.local.0, subst IsTrue (sym (ap (λ (v : PrimaryView). v.faithful) c.submit.ensures.rest)) c.self.invariant.local.1)

pub returns : goal.returns
returns c = record {
  step = rw (← c.self.view_is) (primary-step (SubmitEvent c.args.first (whole_blocks c.args.contents.now)) (is_out_of_memory c.submit.result)
      (submit c.args.first (whole_blocks c.args.contents.now) (is_out_of_memory c.submit.result)) (λ h. refl)
      (record { primary = c.self.inside.primary; secondary = c.self.inside.secondary }) c.submit.new.self _ c.submit.ensures.step);
}
