use Rattle.std.proofs.Common.{refl, ap, subst, IsTrue, sym}
use Rattle.endpoint.specs.Calls.{is_out_of_memory}
use Rattle.model.specs.Pair.{PeerFaultEvent}
use Rattle.model.specs.Pair.{peer_fault_kept}
use Rattle.secondary.specs.State.{SecondaryView}
use Rattle.pair.proofs.Pairing.{secondary-step, secondary-is}
use Rattle.pair.proofs.pair.Pair.peer_fault.Goals as goal

pub invariant_of-self : goal.invariant_of-self
invariant_of-self c =
    secondary-is (PeerFaultEvent c.args.place c.args.kept) (is_out_of_memory c.peer_fault.result)
    (record { primary = c.self.inside.primary; secondary = c.self.inside.secondary }) c.peer_fault.new.self _ c.self.invariant
    (secondary-step (PeerFaultEvent c.args.place c.args.kept) (is_out_of_memory c.peer_fault.result) (peer_fault_kept c.args.place c.args.kept) (λ h. refl)
    (record { primary = c.self.inside.primary; secondary = c.self.inside.secondary }) c.peer_fault.new.self _ c.peer_fault.ensures.step)
    (ap (λ (v : SecondaryView). v.outgoing) c.peer_fault.ensures.rest) (ap (λ (v : SecondaryView). v.incoming) c.peer_fault.ensures.rest)
    (c.peer_fault.ensures.works c.self.invariant.peer.0, subst IsTrue (sym (ap (λ (v : SecondaryView). v.faithful) c.peer_fault.ensures.rest)) c.self.invariant.peer.1)

pub returns : goal.returns
returns c = record {
  step = rw (← c.self.view_is)
      (secondary-step (PeerFaultEvent c.args.place c.args.kept) (is_out_of_memory c.peer_fault.result) (peer_fault_kept c.args.place c.args.kept) (λ h. refl)
      (record { primary = c.self.inside.primary; secondary = c.self.inside.secondary }) c.peer_fault.new.self _ c.peer_fault.ensures.step);
}
