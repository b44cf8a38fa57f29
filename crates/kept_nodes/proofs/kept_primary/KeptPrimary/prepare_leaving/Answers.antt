use Rattle.std.proofs.Common.{Option, subst}
use Rattle.kept_nodes.specs.Kept.{PrimaryIsKept}
use Rattle.kept_nodes.proofs.StillCovering.{kept-left, still-covers}
use Rattle.metadata.specs.State.{MetadataState}
use Rattle.kept_nodes.proofs.kept_primary.KeptPrimary.prepare_leaving.Goals as goal

pub invariant_of-self : goal.invariant_of-self
invariant_of-self g c = kept-left g.F.StableFile.seen g.F.StableFile.may_leave g.F.StableFile.faithful g.B.Beginning.opening c.self.inside.node
    c.in-Some.metadata c.prepare.new.metadata c.self.inside.owes_all
    (subst (λ (m : Option (MetadataState g.row.F.Denot)). PrimaryIsKept g.F.StableFile.seen g.F.StableFile.may_leave g.F.StableFile.faithful
    g.B.Beginning.opening c.self.inside.node m c.self.inside.owes_all) c.in-Some.is c.self.invariant)
    (still-covers g.F.StableFile.seen g.F.StableFile.may_leave g.F.StableFile.faithful c.self.inside.node c.in-Some.metadata c.prepare.new.metadata
    c.prepare.ensures.keeps) c.prepare.ensures.identifiers c.prepare.ensures.keeps.broken
