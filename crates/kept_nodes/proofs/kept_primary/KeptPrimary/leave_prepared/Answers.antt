use Rattle.std.proofs.Common.{Option, subst}
use Rattle.kept_nodes.specs.Kept.{PrimaryIsKept}
use Rattle.kept_nodes.specs.Leaving.{StillCovers}
use Rattle.kept_nodes.proofs.StillCovering.{kept-left}
use Rattle.metadata.specs.State.{MetadataState}
use Rattle.primary.specs.State.{PrimaryView}
use Rattle.kept_nodes.proofs.kept_primary.KeptPrimary.leave_prepared.Goals as goal

pub invariant_of-self : goal.invariant_of-self
invariant_of-self g c = kept-left g.F.StableFile.seen g.F.StableFile.may_leave g.F.StableFile.faithful g.B.Beginning.opening c.self.inside.node
    c.in-Some.metadata c.leave.new.metadata c.self.inside.owes_all
    (subst (λ (m : Option (MetadataState g.row.F.Denot)). PrimaryIsKept g.F.StableFile.seen g.F.StableFile.may_leave g.F.StableFile.faithful
    g.B.Beginning.opening c.self.inside.node m c.self.inside.owes_all) c.in-Some.is c.self.invariant)
    (subst (λ (v : PrimaryView). StillCovers g.F.StableFile.seen g.F.StableFile.may_leave g.F.StableFile.faithful v c.in-Some.metadata c.leave.new.metadata)
    c.node.ensures.node c.leave.ensures.covers) c.leave.ensures.identifiers c.leave.ensures.stays
