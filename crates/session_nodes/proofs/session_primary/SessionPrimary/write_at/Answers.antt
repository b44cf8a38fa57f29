use Rattle.std.proofs.Common.{refl, ap, inl, inr}
use Rattle.blocks.specs.declared.outcome.Reply.TheVariants as reply
use Rattle.model.specs.LocalRuns.{WritesLocally, FailsLocally}
use Rattle.primary.specs.State.{PrimaryView}
use Rattle.primary_protocol.specs.Node.{primary_step}
use Rattle.primary_protocol.specs.Steps.{replied}
use Rattle.session_nodes.specs.Primaries.{PrimaryRuns}
use Rattle.session_nodes.proofs.Ends.{SameEnds, ends-of}
use Rattle.session_nodes.proofs.Primaries.{steps-over, runs-step, had-runs}
use Rattle.session_nodes.proofs.Primaries.{falls-with}
use Rattle.session_nodes.proofs.session_primary.SessionPrimary.write_at.Goals as goal

abbrev same : (g : _) (c : goal.After-local g)
    → SameEnds c.self.inside.node.outgoing c.local.new.self.outgoing c.self.inside.node.incoming c.local.new.self.incoming
same g c = ends-of (ap (λ (x : PrimaryView). x.outgoing) c.local.ensures.rest)
    (ap (λ (x : PrimaryView). x.incoming) c.local.ensures.rest)

abbrev ran : (g : _) (c : goal.After-local g) → PrimaryRuns c.self.inside.node c.local.new.self
ran g c = elim c.local.ensures.step [
  | inl done ↦ runs-step (WritesLocally c.args.number) tt c.self.inside.node c.local.new.self (replied reply.Ok c.local.result) (λ h. refl)
      (steps-over (WritesLocally c.args.number) tt (primary_step (WritesLocally c.args.number)) (λ h. refl) c.self.inside.node c.local.new.self
      (replied reply.Ok c.local.result) (same g c) done.1.replies done.1.after)
  | inr failed ↦ runs-step (FailsLocally c.args.number failed.1.0) tt c.self.inside.node c.local.new.self (replied reply.Ok c.local.result) (λ h. refl)
      (steps-over (FailsLocally c.args.number failed.1.0) tt (primary_step (FailsLocally c.args.number failed.1.0))
      (λ h. refl) c.self.inside.node c.local.new.self (replied reply.Ok c.local.result) (same g c) failed.1.1.replies failed.1.1.after)
]

pub invariant_of-self : goal.invariant_of-self
invariant_of-self g c = had-runs c.self.inside.node c.local.new.self c.self.invariant (ran g c)

pub returns-clause-runs : goal.returns-clause-runs
returns-clause-runs g c = rw (← c.self.view_is) (ran g c)

pub returns-clause-outward : goal.returns-clause-outward
returns-clause-outward g c = rw (← c.self.view_is) (ap (λ (x : PrimaryView). x.outgoing) c.local.ensures.rest)

pub returns-clause-inward : goal.returns-clause-inward
returns-clause-inward g c = rw (← c.self.view_is) (ap (λ (x : PrimaryView). x.incoming) c.local.ensures.rest)

pub returns-clause-falls : goal.returns-clause-falls
returns-clause-falls g c = rw (← c.self.view_is) (falls-with c.self.inside.node c.local.new.self (ap (λ (v : PrimaryView). v.faithful) c.local.ensures.rest))
