use Rattle.std.proofs.Common.{inl, inr, refl, sym, subst}
use Rattle.std.proofs.lemmas.Bool.{cases_lt}
use Rattle.model.specs.LocalRuns.{ClosesToo}
use Rattle.secondary.specs.State.{SecondaryView}
use Rattle.kept_nodes.proofs.Saving.{IsSized, sized-steps, sized-still}
use Rattle.kept_nodes.proofs.kept_secondary.KeptSecondary.close_lost.Goals as goal

pub save_identifiers-requires : goal.save_identifiers-requires
save_identifiers-requires g c = elim (cases_lt c.args.connection c.self.inside.node.core.number) [
  | inl later ↦ subst (λ (v : SecondaryView). IsSized c.self.inside.metadata v) (sym (c.close_lost.ensures.later later))
      (sized-still g.B.Beginning.opening c.self.inside.node c.self.inside.metadata c.self.inside.is_doubted c.self.invariant)
  | inr closes ↦ sized-steps g.B.Beginning.opening ClosesToo c.self.inside.node c.close_lost.new.self (c.close_lost.ensures.closes closes).0
      c.self.inside.metadata c.self.inside.is_doubted (λ h. refl) c.self.invariant (c.close_lost.ensures.closes closes).1
]
