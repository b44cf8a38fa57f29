use Rattle.std.proofs.Common.{refl}
use Rattle.model.specs.LocalRuns.{ClosesToo}
use Rattle.kept_nodes.proofs.Saving.{sized-steps}
use Rattle.kept_nodes.proofs.kept_secondary.KeptSecondary.close.Goals as goal

pub save_identifiers-requires : goal.save_identifiers-requires
save_identifiers-requires g c = sized-steps g.B.Beginning.opening ClosesToo c.self.inside.node c.close-closed.new.self _ c.self.inside.metadata
    c.self.inside.is_doubted (λ h. refl) c.self.invariant c.close-closed.ensures.step
