use Rattle.std.proofs.Common.{refl, ap, subst, IsTrue, sym}
use Rattle.endpoint.specs.Calls.{is_out_of_memory}
use Rattle.model.specs.Pair.{LocalFaultEvent}
use Rattle.model.specs.Pair.{local_fault_kept}
use Rattle.primary.specs.State.{PrimaryView}
use Rattle.pair.proofs.Pairing.{primary-step, primary-is}
use Rattle.pair.proofs.pair.Pair.local_fault.Goals as goal

pub invariant_of-self : goal.invariant_of-self
invariant_of-self c =
    primary-is (LocalFaultEvent c.args.number c.args.kept) (is_out_of_memory c.local_fault.result)
    (record { primary = c.self.inside.primary; secondary = c.self.inside.secondary }) c.local_fault.new.self _ c.self.invariant
    (primary-step (LocalFaultEvent c.args.number c.args.kept) (is_out_of_memory c.local_fault.result) (local_fault_kept c.args.number c.args.kept) (λ h. refl)
    (record { primary = c.self.inside.primary; secondary = c.self.inside.secondary }) c.local_fault.new.self _ c.local_fault.ensures.step)
    (ap (λ (v : PrimaryView). v.outgoing) c.local_fault.ensures.rest) (ap (λ (v : PrimaryView). v.incoming) c.local_fault.ensures.rest)
    (c.local_fault.ensures.works c.self.invariant.local.0, subst IsTrue (sym (ap (λ (v : PrimaryView). v.faithful) c.local_fault.ensures.rest)) c.self.invariant.local.1)

pub returns : goal.returns
returns c = record {
  step = rw (← c.self.view_is)
      (primary-step (LocalFaultEvent c.args.number c.args.kept) (is_out_of_memory c.local_fault.result) (local_fault_kept c.args.number c.args.kept) (λ h. refl)
      (record { primary = c.self.inside.primary; secondary = c.self.inside.secondary }) c.local_fault.new.self _ c.local_fault.ensures.step);
}
