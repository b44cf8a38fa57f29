use Rattle.std.proofs.Common.{sym, ◌∙◌}
use Rattle.kept_nodes.proofs.Losing.{IsWhole, all-loses}
use Rattle.kept_nodes.proofs.keeping.enter_device.Goals as goal

pub returns-then-not-is_broken-clause-keeps : goal.returns-then-not-is_broken-clause-keeps
returns-then-not-is_broken-clause-keeps g c =
    let w : IsWhole g.F.StableFile.seen g.F.StableFile.may_leave g.F.StableFile.faithful c.in-Some.metadata = record {
      whole = sym c.is_broken.ensures.broken ∙ c.if-not-is_broken.true;
      sized = c.is_broken.ensures.sized;
      blocks = c.is_broken.ensures.few;
      stands = c.is_broken.ensures.stands c.if-not-is_broken.true;
    } in
    rw c.in-Some.is (all-loses g.F.StableFile.seen g.F.StableFile.may_leave g.F.StableFile.faithful g.F.StableFile.moment g.F.StableFile.left_since g.met.F.StableFile.counts_now
    c.enter_all.result c.in-Some.metadata c.enter_all.new.self w c.enter_all.ensures.breaks c.enter_all.ensures.memory c.enter_all.ensures.falls c.enter_all.ensures.size
    c.enter_all.ensures.says c.enter_all.ensures.entered c.enter_all.ensures.durable (c.enter_all.ensures.any_moment w.whole))
