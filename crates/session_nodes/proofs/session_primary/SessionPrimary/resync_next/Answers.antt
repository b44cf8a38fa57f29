use Rattle.std.proofs.Common.{refl, ap, inl, inr}
use Rattle.blocks.specs.declared.outcome.Reply.TheVariants as reply
use Rattle.endpoint.specs.Calls.{is_out_of_memory}
use Rattle.model.specs.LocalRuns.{Resyncs, FailsResync}
use Rattle.primary.specs.State.{PrimaryView}
use Rattle.primary_protocol.specs.Node.{primary_step}
use Rattle.primary_protocol.specs.Steps.{replied}
use Rattle.session_nodes.specs.Primaries.{PrimaryRuns}
use Rattle.session_nodes.proofs.Ends.{SameEnds, ends-of}
use Rattle.session_nodes.proofs.Primaries.{steps-over, runs-step, had-runs}
use Rattle.session_nodes.proofs.Answers.{copy-refused}
use Rattle.session_nodes.proofs.session_primary.SessionPrimary.resync_next.Goals as goal

abbrev same : (g : _) (c : goal.After-resync_next g)
    → SameEnds c.self.inside.node.outgoing c.resync_next.new.self.outgoing c.self.inside.node.incoming c.resync_next.new.self.incoming
same g c = ends-of (ap (λ (x : PrimaryView). x.outgoing) c.resync_next.ensures.rest)
    (ap (λ (x : PrimaryView). x.incoming) c.resync_next.ensures.rest)

abbrev ran : (g : _) (c : goal.After-resync_next g) → PrimaryRuns c.self.inside.node c.resync_next.new.self
ran g c = elim c.resync_next.ensures.step [
  | inl done ↦ runs-step (Resyncs done.1.0 (is_out_of_memory c.resync_next.result)) tt c.self.inside.node c.resync_next.new.self (replied reply.Ok c.resync_next.result)
      (λ h. refl)
      (steps-over (Resyncs done.1.0 (is_out_of_memory c.resync_next.result)) tt (primary_step (Resyncs done.1.0 (is_out_of_memory c.resync_next.result)))
      (λ h. refl) c.self.inside.node c.resync_next.new.self (replied reply.Ok c.resync_next.result) (same g c) done.1.2.replies done.1.2.after)
  | inr failed ↦ runs-step (FailsResync (is_out_of_memory c.resync_next.result)) tt c.self.inside.node c.resync_next.new.self
      (replied reply.Ok c.resync_next.result)
      (λ h. refl)
      (steps-over (FailsResync (is_out_of_memory c.resync_next.result)) tt (primary_step (FailsResync (is_out_of_memory c.resync_next.result)))
      (λ h. refl) c.self.inside.node c.resync_next.new.self (replied reply.Ok c.resync_next.result) (same g c) failed.1.replies failed.1.after)
]

pub invariant_of-self : goal.invariant_of-self
invariant_of-self g c = had-runs c.self.inside.node c.resync_next.new.self c.self.invariant (ran g c)

pub returns : goal.returns
returns g c = rw (← c.self.view_is) (record {
  runs = ran g c;
  copies = c.resync_next.ensures.step;
  outward = ap (λ (x : PrimaryView). x.outgoing) c.resync_next.ensures.rest;
  inward = ap (λ (x : PrimaryView). x.incoming) c.resync_next.ensures.rest;
  refused = copy-refused _ _ c.resync_next.new.self c.resync_next.result c.self.invariant c.resync_next.ensures.step;
  falls = c.resync_next.ensures.falls;
})
