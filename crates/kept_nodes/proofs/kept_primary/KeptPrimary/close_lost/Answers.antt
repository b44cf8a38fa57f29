use Rattle.std.proofs.Common.{inl, inr, sym, subst}
use Rattle.std.proofs.lemmas.Bool.{cases_lt}
use Rattle.model.specs.LocalRuns.{Closes}
use Rattle.primary.specs.State.{PrimaryView}
use Rattle.session_nodes.specs.Primaries.{PrimaryHas}
use Rattle.kept_nodes.proofs.Covering.{kept-event, kept-still}
use Rattle.kept_nodes.proofs.kept_primary.KeptPrimary.close_lost.Goals as goal

pub invariant_of-self : goal.invariant_of-self
invariant_of-self g c = elim (cases_lt c.args.connection c.self.inside.node.core.connections) [
  | inl later ↦ kept-still g.F.StableFile.seen g.F.StableFile.may_leave g.F.StableFile.faithful g.B.Beginning.opening c.self.inside.node
      c.close_lost.new.self c.self.inside.metadata c.save_identifiers.new.metadata c.self.inside.owes_all c.self.invariant c.save_identifiers.ensures.keeps
      (λ h has. subst (λ (v : PrimaryView). PrimaryHas v h) (sym (c.close_lost.ensures.later later)) has) c.save_identifiers.ensures.saved
  | inr closes ↦ kept-event g.F.StableFile.seen g.F.StableFile.may_leave g.F.StableFile.faithful g.B.Beginning.opening Closes
      (λ h block may. may) c.self.inside.node c.close_lost.new.self c.self.inside.metadata c.save_identifiers.new.metadata c.self.inside.owes_all c.self.invariant
      c.save_identifiers.ensures.keeps (c.close_lost.ensures.closes closes).1.after c.save_identifiers.ensures.saved
]
