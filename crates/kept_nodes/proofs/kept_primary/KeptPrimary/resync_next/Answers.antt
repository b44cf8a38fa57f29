use Rattle.kept_nodes.proofs.Covering.{kept-event}
use Rattle.kept_nodes.proofs.Working.{LedBy, copies-led}
use Rattle.session_nodes.proofs.Primaries.{goes-on-runs}
use Rattle.kept_nodes.proofs.kept_primary.KeptPrimary.resync_next.Goals as goal

pub invariant_of-self : goal.invariant_of-self
invariant_of-self g c =
    let led : LedBy c.self.inside.node c.resync_next-copied.new.self = copies-led c.resync_next-copied.result c.self.inside.node c.resync_next-copied.new.self
    c.resync_next-copied.ensures.outward c.resync_next-copied.ensures.inward c.resync_next-copied.ensures.copies in
    kept-event g.F.StableFile.seen g.F.StableFile.may_leave g.F.StableFile.faithful g.B.Beginning.opening led.event led.none c.self.inside.node
    c.resync_next-copied.new.self c.self.inside.metadata c.save_identifiers.new.metadata c.self.inside.owes_all c.self.invariant
    c.save_identifiers.ensures.keeps led.after c.save_identifiers.ensures.saved

pub returns-clause-goes_on : goal.returns-clause-goes_on
returns-clause-goes_on g c = rw (← c.self.view_is)
    (goes-on-runs c.self.inside.node c.resync_next-copied.new.self c.resync_next-copied.ensures.runs c.resync_next-copied.ensures.falls)
