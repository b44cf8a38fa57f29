use Rattle.std.proofs.Common.{◌≡◌, List, Option, None, Some, ℕ, Result, refl, ap, sym, subst, ◌∙◌}
use Rattle.std.specs.Prelude.{IsTrue}
use Rattle.blocks.specs.declared.outcome.Done.{Done}
use Rattle.blocks.specs.declared.outcome.Reply.{Reply}
use Rattle.blocks.specs.declared.outcome.Reply.TheVariants as reply
use Rattle.blocks.specs.declared.refusal.Refusal.{Refusal}
use Rattle.endpoint.specs.Calls.{is_out_of_memory}
use Rattle.model.specs.Pair.{ResyncEvent}
use Rattle.model.specs.PrimarySteps.{resync_next}
use Rattle.model.specs.LocalRuns.{Resyncs}
use Rattle.primary_protocol.specs.Node.{NodeSteps}
use Rattle.primary_protocol.specs.Steps.{replied}
use Rattle.pair.proofs.Steady.{in-fact}
use Rattle.primary.specs.State.{PrimaryView, node}
use Rattle.primary.specs.Calls.{CopiesOne}
use Rattle.pair.proofs.Pairing.{primary-step, primary-is}
use Rattle.pair.proofs.pair.Pair.resync.Goals as goal

-- the copy of a faithful disk
own-copy : (result : Result Done Refusal) (v w : PrimaryView) → CopiesOne result v w → w.faults ≡ v.faults → IsTrue w.faithful
    → NodeSteps (Resyncs None (is_out_of_memory result)) (node v) (replied reply.Ok result) (node w)
own-copy result v w copies same faithful =
    let copied = in-fact copies same in
    subst (λ (read : Option (List ℕ)). NodeSteps (Resyncs read (is_out_of_memory result)) (node v) (replied reply.Ok result) (node w))
    (copied.1 faithful) copied.2

pub invariant_of-self : goal.invariant_of-self
invariant_of-self c =
    let works = c.resync_next.ensures.works c.self.invariant.local.0 in
    let faithful : IsTrue c.resync_next.new.self.faithful = subst IsTrue (sym works.2) c.self.invariant.local.1 in
    primary-is ResyncEvent (is_out_of_memory c.resync_next.result) (record { primary = c.self.inside.primary; secondary = c.self.inside.secondary })
    c.resync_next.new.self _ c.self.invariant
    (primary-step ResyncEvent (is_out_of_memory c.resync_next.result) (resync_next None (is_out_of_memory c.resync_next.result)) (λ h. refl)
    (record { primary = c.self.inside.primary; secondary = c.self.inside.secondary }) c.resync_next.new.self _
    (own-copy c.resync_next.result c.self.inside.primary c.resync_next.new.self c.resync_next.ensures.step works.0 faithful))
    (ap (λ (v : PrimaryView). v.outgoing) c.resync_next.ensures.rest) (ap (λ (v : PrimaryView). v.incoming) c.resync_next.ensures.rest)
    (works.1, faithful)

pub returns : goal.returns
returns c = record {
  step =
      let works = c.resync_next.ensures.works c.self.invariant.local.0 in
      let faithful : IsTrue c.resync_next.new.self.faithful = subst IsTrue (sym works.2) c.self.invariant.local.1 in
      rw (← c.self.view_is) (primary-step ResyncEvent (is_out_of_memory c.resync_next.result)
      (resync_next None (is_out_of_memory c.resync_next.result))
      (λ h. refl) (record { primary = c.self.inside.primary; secondary = c.self.inside.secondary }) c.resync_next.new.self _
      (own-copy c.resync_next.result c.self.inside.primary c.resync_next.new.self c.resync_next.ensures.step works.0 faithful));
}
