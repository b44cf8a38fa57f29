use Rattle.std.proofs.Common.{refl, ap, inl, inr}
use Rattle.model.specs.LocalRuns.{Applies, FailsToApply}
use Rattle.secondary.specs.State.{SecondaryView}
use Rattle.secondary_protocol.specs.Steps.{replied}
use Rattle.session_nodes.specs.Secondaries.{SecondaryRuns}
use Rattle.session_nodes.proofs.Ends.{SameEnds, ends-of}
use Rattle.session_nodes.proofs.Secondaries.{steps-over, runs-step, had-runs}
use Rattle.session_nodes.proofs.session_secondary.SessionSecondary.apply_at.Goals as goal

abbrev same : (g : _) (c : goal.After-peer g)
    → SameEnds c.self.inside.node.outgoing c.peer.new.self.outgoing c.self.inside.node.incoming c.peer.new.self.incoming
same g c = ends-of (ap (λ (x : SecondaryView). x.outgoing) c.peer.ensures.rest)
    (ap (λ (x : SecondaryView). x.incoming) c.peer.ensures.rest)

abbrev ran : (g : _) (c : goal.After-peer g) → SecondaryRuns c.self.inside.node c.peer.new.self
ran g c = elim c.peer.ensures.step [
  | inl done ↦ runs-step (Applies c.args.place) tt c.self.inside.node c.peer.new.self (replied (λ done. done) c.peer.result) (λ h. refl)
      (steps-over (Applies c.args.place) tt (λ h. refl) c.self.inside.node c.peer.new.self (replied (λ done. done) c.peer.result) (same g c) done.1)
  | inr failed ↦ runs-step (FailsToApply c.args.place failed.1.0) tt c.self.inside.node c.peer.new.self (replied (λ done. done) c.peer.result) (λ h. refl)
      (steps-over (FailsToApply c.args.place failed.1.0) tt (λ h. refl) c.self.inside.node c.peer.new.self (replied (λ done. done) c.peer.result)
      (same g c) failed.1.1)
]

pub invariant_of-self : goal.invariant_of-self
invariant_of-self g c = had-runs c.self.inside.node c.peer.new.self c.self.invariant (ran g c)

pub returns-clause-runs : goal.returns-clause-runs
returns-clause-runs g c = rw (← c.self.view_is) (ran g c)
