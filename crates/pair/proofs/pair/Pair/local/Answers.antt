use Rattle.std.proofs.Common.{refl, ap, subst, IsTrue, sym}
use Rattle.endpoint.specs.Calls.{is_out_of_memory}
use Rattle.model.specs.Pair.{LocalEvent}
use Rattle.model.specs.PrimarySteps.{local_done}
use Rattle.pair.proofs.Steady.{in-fact}
use Rattle.primary.specs.State.{PrimaryView}
use Rattle.pair.proofs.Pairing.{primary-step, primary-is}
use Rattle.pair.proofs.pair.Pair.local.Goals as goal

pub invariant_of-self : goal.invariant_of-self
invariant_of-self c =
    primary-is (LocalEvent c.args.number) (is_out_of_memory c.local.result) (record { primary = c.self.inside.primary; secondary = c.self.inside.secondary })
    c.local.new.self _ c.self.invariant
    (primary-step (LocalEvent c.args.number) (is_out_of_memory c.local.result) (local_done c.args.number) (λ h. refl)
    (record { primary = c.self.inside.primary; secondary = c.self.inside.secondary }) c.local.new.self _
    (in-fact c.local.ensures.step (c.local.ensures.works c.self.invariant.local.0).0))
    (ap (λ (v : PrimaryView). v.outgoing) c.local.ensures.rest) (ap (λ (v : PrimaryView). v.incoming) c.local.ensures.rest)
    ((c.local.ensures.works c.self.invariant.local.0).1, subst IsTrue (sym (ap (λ (v : PrimaryView). v.faithful) c.local.ensures.rest)) c.self.invariant.local.1)

pub returns : goal.returns
returns c = record {
  step = rw (← c.self.view_is) (primary-step (LocalEvent c.args.number) (is_out_of_memory c.local.result) (local_done c.args.number) (λ h. refl)
      (record { primary = c.self.inside.primary; secondary = c.self.inside.secondary }) c.local.new.self _
      (in-fact c.local.ensures.step (c.local.ensures.works c.self.invariant.local.0).0));
}
