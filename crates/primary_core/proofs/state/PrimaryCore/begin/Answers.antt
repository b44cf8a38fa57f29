use Rattle.std.proofs.Common.{◌∙◌, ap, List, Bool, true, length}
use Rattle.std.specs.Prelude.{replicate}
use Rattle.primary_core.specs.State.{core_of}
use Rattle.primary_core.proofs.Beginning.{begun-bitmap, begun-full}
use Rattle.primary_core.proofs.state.PrimaryCore.begin.Goals as goal

pub returns-in-BitmapSync : goal.returns-in-BitmapSync
returns-in-BitmapSync c e is =
    rw c.in-BitmapSync.is (begun-bitmap e c.args.self.now.state c.connect-in-BitmapSync.new.self.state c.begin_resync.new.self.state
    c.connect-in-BitmapSync.ensures.state is (λ here. c.begin_resync.ensures e here))

pub returns-in-FullSync : goal.returns-in-FullSync
returns-in-FullSync c e is =
    let v = core_of c.self.inside in
    let s = c.args.self.now.state in
    let marks = ap (λ (m : List Bool). record v.state { marks = m }) c.mark_all.ensures
    ∙ ap (λ x. record x.state { marks = replicate (length x.state.marks) true }) c.self.view_is in
    rw c.in-FullSync.is (begun-full e s (record v.state { marks = c.mark_all.new.self }) c.connect-in-FullSync.new.self.state
    c.begin_resync-in-FullSync.new.self.state marks c.connect-in-FullSync.ensures.state is (λ here. c.begin_resync-in-FullSync.ensures e here))
