use Rattle.std.proofs.Common.{sym, ◌∙◌}
use Rattle.kept_nodes.proofs.Losing.{IsWhole, enter-loses, marks-enter, on-ok-both}
use Rattle.kept_nodes.proofs.keeping.enter.Goals as goal

abbrev whole : (g : _) (c : goal.After-enter g) → IsWhole g.F.StableFile.seen g.F.StableFile.may_leave g.F.StableFile.faithful c.args.metadata.now
whole g c = record {
  whole = sym c.is_broken.ensures.broken ∙ c.if-is_broken.false;
  sized = c.is_broken.ensures.sized;
  blocks = c.is_broken.ensures.few;
  stands = c.is_broken.ensures.stands c.if-is_broken.false;
}

pub returns-clause-keeps : goal.returns-clause-keeps
returns-clause-keeps g c =
    let w = whole g c in
    enter-loses g.F.StableFile.seen g.F.StableFile.may_leave g.F.StableFile.faithful g.F.StableFile.moment g.F.StableFile.left_since g.met.F.StableFile.counts_now
    c.enter.result c.args.extent.0 c.args.metadata.now c.enter.new.self w c.requires.inside c.enter.ensures.breaks c.enter.ensures.memory c.enter.ensures.falls
    (c.enter.ensures.already w.whole) c.enter.ensures.entry c.enter.ensures.says c.enter.ensures.entered c.enter.ensures.durable (c.enter.ensures.any_moment w.whole)

pub returns-clause-marks : goal.returns-clause-marks
returns-clause-marks g c = on-ok-both c.enter.result c.enter.ensures.says (λ says still stand. marks-enter g.F.StableFile.seen g.F.StableFile.may_leave g.F.StableFile.faithful
    g.F.StableFile.moment g.F.StableFile.left_since g.met.F.StableFile.counts_now c.args.extent.0 c.args.metadata.now c.enter.new.self (says still)
    (c.enter.ensures.any_moment (whole g c).whole still) stand)

pub returns-clause-same : goal.returns-clause-same
returns-clause-same g c = on-ok-both c.enter.result c.enter.ensures.says (λ says still. (says still).marks)
