use Rattle.std.proofs.Common.{refl, ap, subst, IsTrue, sym}
use Rattle.endpoint.specs.Calls.{is_out_of_memory}
use Rattle.model.specs.Pair.{ResyncFaultEvent}
use Rattle.model.specs.PrimarySteps.{resync_fault}
use Rattle.primary.specs.State.{PrimaryView}
use Rattle.pair.proofs.Pairing.{primary-step, primary-is}
use Rattle.pair.proofs.pair.Pair.resync_fault.Goals as goal

pub invariant_of-self : goal.invariant_of-self
invariant_of-self c =
    primary-is ResyncFaultEvent (is_out_of_memory c.resync_fault.result) (record { primary = c.self.inside.primary; secondary = c.self.inside.secondary })
    c.resync_fault.new.self _ c.self.invariant
    (primary-step ResyncFaultEvent (is_out_of_memory c.resync_fault.result) (resync_fault (is_out_of_memory c.resync_fault.result)) (λ h. refl)
    (record { primary = c.self.inside.primary; secondary = c.self.inside.secondary }) c.resync_fault.new.self _ c.resync_fault.ensures.step)
    (ap (λ (v : PrimaryView). v.outgoing) c.resync_fault.ensures.rest) (ap (λ (v : PrimaryView). v.incoming) c.resync_fault.ensures.rest)
    (c.resync_fault.ensures.works c.self.invariant.local.0, subst IsTrue (sym (ap (λ (v : PrimaryView). v.faithful) c.resync_fault.ensures.rest)) c.self.invariant.local.1)

pub returns : goal.returns
returns c = record {
  step = rw (← c.self.view_is)
      (primary-step ResyncFaultEvent (is_out_of_memory c.resync_fault.result) (resync_fault (is_out_of_memory c.resync_fault.result)) (λ h. refl)
      (record { primary = c.self.inside.primary; secondary = c.self.inside.secondary }) c.resync_fault.new.self _ c.resync_fault.ensures.step);
}
