use Rattle.activitylog.proofs.Entries.{writes-lookup}
use Rattle.activitylog.proofs.log.ActivityLog.writes.Goals as goal

pub returns : goal.returns
returns c =
    let counted = writes-lookup c.args.extent.0 c.self.inside.active.entries in
    rw (← c.self.view_is) (cc)
