use Rattle.std.proofs.Common.{◌+◌, ◌-◌, inl, inr, refl}
use Rattle.std.proofs.lemmas.Bool.{cases_lt}
use Rattle.model.specs.LocalRuns.{OpensToo}
use Rattle.kept_nodes.proofs.Saving.{sized-steps}
use Rattle.kept_nodes.proofs.kept_secondary.KeptSecondary.reopen.Goals as goal

pub save_identifiers-requires : goal.save_identifiers-requires
save_identifiers-requires g c = elim (cases_lt c.self.inside.node.core.number c.args.number) [
  | inl above ↦ sized-steps g.B.Beginning.opening (OpensToo (c.args.number - (c.self.inside.node.core.number + 1))) c.self.inside.node c.reopen.new.self _
      c.self.inside.metadata c.self.inside.is_doubted (λ h. refl) c.self.invariant (c.reopen.ensures.step above)
  | inr low ↦ absurd (let refused = c.reopen.ensures.numbered low in let fine = c.in-Ok.is in cc)
]
