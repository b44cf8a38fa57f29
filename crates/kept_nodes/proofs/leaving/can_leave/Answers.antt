use Rattle.std.proofs.Common.{◌∙◌, arith}
use Rattle.kept_nodes.proofs.Extents.{covered-marked}
use Rattle.kept_nodes.proofs.StillCovering.{if-ok-both}
use Rattle.kept_nodes.proofs.leaving.can_leave.Goals as goal

pub returns-clause-marked : goal.returns-clause-marked
returns-clause-marked g c = if-ok-both c.has_marks.result c.has_marks.ensures.marked (λ can marked is still h has block here covered.
    marked is still block here (c.bitmap.ensures.marks h has block ∙ covered-marked h c.args.extent.0 block has.reached
    (omega (arith, c.unreleased_in.ensures h has, c.if-unreleased_in-gt0.false)) here covered))
