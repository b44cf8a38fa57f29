use Rattle.std.proofs.Common.{◌∷◌, [], inl, inr, refl, sym, subst}
use Rattle.std.proofs.lemmas.Bool.{cases_lt}
use Rattle.model.specs.LocalRuns.{Closes}
use Rattle.primary_protocol.specs.Node.{primary_step}
use Rattle.told_nodes.specs.Told.{IsTold}
use Rattle.told_nodes.proofs.Going.{stays}
use Rattle.told_nodes.proofs.told_primary.ToldPrimary.close_lost.Goals as goal

pub invariant_of-self : goal.invariant_of-self
invariant_of-self g c = elim (cases_lt c.args.connection c.self.inside.kept.node.core.connections) [
  | inl later ↦ subst (IsTold g.B.Beginning.opening c.self.inside.log.log) (sym (c.close_lost.ensures.later later)) c.self.invariant
  | inr closes ↦ stays c.self.inside.log.log c.self.inside.kept.node c.close_lost.new.self.node c.self.invariant c.close_lost.ensures.falls
      (λ h was. record { history = (primary_step Closes h).1; has = (c.close_lost.ensures.closes closes).1.after h was; leads = (Closes ∷ [], refl) })
]
