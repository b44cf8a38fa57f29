use Rattle.std.proofs.Common.{refl, ap, subst, IsTrue, sym}
use Rattle.endpoint.specs.Calls.{is_out_of_memory}
use Rattle.model.specs.Pair.{PeerEvent}
use Rattle.model.specs.SecondarySteps.{peer}
use Rattle.pair.proofs.Steady.{in-fact}
use Rattle.secondary.specs.State.{SecondaryView}
use Rattle.pair.proofs.Pairing.{secondary-step, secondary-is}
use Rattle.pair.proofs.pair.Pair.peer.Goals as goal

pub invariant_of-self : goal.invariant_of-self
invariant_of-self c =
    secondary-is (PeerEvent c.args.place) (is_out_of_memory c.peer.result) (record { primary = c.self.inside.primary; secondary = c.self.inside.secondary })
    c.peer.new.self _ c.self.invariant
    (secondary-step (PeerEvent c.args.place) (is_out_of_memory c.peer.result) (peer c.args.place) (λ h. refl)
    (record { primary = c.self.inside.primary; secondary = c.self.inside.secondary }) c.peer.new.self _
    (in-fact c.peer.ensures.step (c.peer.ensures.works c.self.invariant.peer.0).0))
    (ap (λ (v : SecondaryView). v.outgoing) c.peer.ensures.rest) (ap (λ (v : SecondaryView). v.incoming) c.peer.ensures.rest)
    ((c.peer.ensures.works c.self.invariant.peer.0).1, subst IsTrue (sym (ap (λ (v : SecondaryView). v.faithful) c.peer.ensures.rest)) c.self.invariant.peer.1)

pub returns : goal.returns
returns c = record {
  step = rw (← c.self.view_is) (secondary-step (PeerEvent c.args.place) (is_out_of_memory c.peer.result) (peer c.args.place) (λ h. refl)
      (record { primary = c.self.inside.primary; secondary = c.self.inside.secondary }) c.peer.new.self _
      (in-fact c.peer.ensures.step (c.peer.ensures.works c.self.invariant.peer.0).0));
}
