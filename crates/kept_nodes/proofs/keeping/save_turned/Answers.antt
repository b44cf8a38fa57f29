use Rattle.std.proofs.Common.{sym, ◌∙◌}
use Rattle.kept_nodes.proofs.Losing.{IsWhole, save-loses}
use Rattle.kept_nodes.proofs.keeping.save_turned.Goals as goal

pub returns-clause-keeps : goal.returns-clause-keeps
returns-clause-keeps g c =
    let w : IsWhole g.F.StableFile.seen g.F.StableFile.may_leave g.F.StableFile.faithful c.in-Some.metadata = record {
      whole = sym c.is_broken.ensures.broken ∙ c.if-is_broken.false;
      sized = c.is_broken.ensures.sized;
      blocks = c.is_broken.ensures.few;
      stands = c.is_broken.ensures.stands c.if-is_broken.false;
    } in
    rw c.in-Some.is (save-loses g.F.StableFile.seen g.F.StableFile.may_leave g.F.StableFile.faithful g.F.StableFile.moment g.F.StableFile.left_since g.met.F.StableFile.counts_now
    c.save.result _ c.in-Some.metadata c.save.new.self w c.save.ensures.breaks c.save.ensures.memory c.save.ensures.falls c.save.ensures.says (c.save.ensures.any_moment w.whole))
